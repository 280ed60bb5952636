pub mod Phase
pub mod Cover
pub mod Who
