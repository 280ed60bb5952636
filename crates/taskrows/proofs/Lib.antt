pub mod BoardLaws
pub mod Bools
pub mod FiguresLaws
pub mod InterruptLaws
