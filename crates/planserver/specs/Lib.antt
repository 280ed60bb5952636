pub mod Members
pub mod Recorded
