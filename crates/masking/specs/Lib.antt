pub mod Masking
pub mod Claims
