pub mod Words
pub mod Lined
pub mod Claims
