pub mod File
pub mod Taken
