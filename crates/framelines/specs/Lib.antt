pub mod Lines
pub mod Figures
pub mod Each
