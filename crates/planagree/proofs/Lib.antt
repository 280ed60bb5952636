pub mod Fronts
pub mod AgreeLaws
