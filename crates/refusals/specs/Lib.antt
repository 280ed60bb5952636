pub mod Refused
pub mod First
pub mod Leaves
