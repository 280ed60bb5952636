pub mod Interrupts
pub mod Interrupted
pub mod Claims
