pub mod Write
pub mod Tool
