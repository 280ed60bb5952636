pub mod Prints
pub mod Claims
