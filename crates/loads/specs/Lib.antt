pub mod Figures
pub mod Charge
