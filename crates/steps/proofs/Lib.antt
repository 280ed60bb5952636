pub mod StepLaws
pub mod LastLaws
pub mod RisenLaws
pub mod Claims
