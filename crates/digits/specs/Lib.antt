pub mod Digit
pub mod Number
pub mod Stored
pub mod Claims
