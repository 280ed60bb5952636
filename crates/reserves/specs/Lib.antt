pub mod Slotted
pub mod Reserves
pub mod Whole
