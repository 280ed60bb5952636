pub mod SweepLaws
pub mod PartLaws
pub mod LastLaws
