pub mod Stepping
pub mod Claims
