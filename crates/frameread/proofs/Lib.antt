pub mod Cuts
pub mod Formed
pub mod KindLaws
pub mod Places
