pub mod Served
pub mod Made
