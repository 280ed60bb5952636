pub mod Text
pub mod Counts
