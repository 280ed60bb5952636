pub mod Figures
pub mod Board
