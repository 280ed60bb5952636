pub mod BoundLaws
pub mod GreatestLaws
pub mod SlicesLaws
pub mod AskedLaws
pub mod ReachedLaws
pub mod Claims
