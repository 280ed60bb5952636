pub mod OfFile
pub mod Claims
