pub mod Measure
pub mod Multiple
pub mod Ceiling
pub mod Claims
