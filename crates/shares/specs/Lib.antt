pub mod Totals
pub mod Soonest
pub mod Share
