pub mod Eased
pub mod Claims
