pub mod Below
pub mod Sorting
