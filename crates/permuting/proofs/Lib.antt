pub mod ServerLaws
pub mod HorizonLaws
