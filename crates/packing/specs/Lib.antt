pub mod Rules
pub mod Turns
pub mod Claims
