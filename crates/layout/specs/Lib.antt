pub mod Layout
pub mod Made
pub mod Layable
