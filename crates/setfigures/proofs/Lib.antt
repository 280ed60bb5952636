pub mod FigureLaws
pub mod BoardLaws
