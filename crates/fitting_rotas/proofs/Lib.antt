pub mod FittingLaws
pub mod Claims
