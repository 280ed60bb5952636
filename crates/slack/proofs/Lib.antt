pub mod LeastLaws
pub mod Closing
pub mod Claims
