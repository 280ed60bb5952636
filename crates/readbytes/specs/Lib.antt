pub mod Furthest
