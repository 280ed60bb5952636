pub mod Bounded
pub mod Descent
pub mod Halving
pub mod Claims
