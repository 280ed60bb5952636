pub mod Claims
pub mod Digits
pub mod Numbers
pub mod Stored
