pub mod Placement
pub mod Fitting
pub mod Claims
