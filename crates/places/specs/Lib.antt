pub mod Padded
pub mod Places
