pub mod Join
pub mod Fits
pub mod Kept
pub mod Soonest
