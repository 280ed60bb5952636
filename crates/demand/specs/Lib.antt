pub mod Load
pub mod Demand
pub mod Supply
pub mod Lawful
pub mod Passes
pub mod Steps
pub mod Claims
