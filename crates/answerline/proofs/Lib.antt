pub mod LineLaws
pub mod Claims
