pub mod Carried
pub mod TwiceLaws
