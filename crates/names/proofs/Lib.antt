pub mod PartLaws
pub mod HeldLaws
pub mod CutLaws
pub mod Claims
