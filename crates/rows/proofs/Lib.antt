pub mod InterruptLaws
pub mod Clears
pub mod FileOrder
