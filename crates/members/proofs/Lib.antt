pub mod SpacedLaws
pub mod HorizonLaws
pub mod ServerLaws
pub mod BoundedLaws
pub mod FiledLaws
