pub mod Lines
pub mod Claims
