pub mod Set
pub mod Values
pub mod Search
