pub mod MadeLaws
pub mod PaddedLaws
pub mod PlacesLaws
