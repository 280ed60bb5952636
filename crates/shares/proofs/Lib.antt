pub mod TotalLaws
pub mod ScaledLaws
