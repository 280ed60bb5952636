pub mod Since
pub mod Counting
pub mod Worst
pub mod Failing
pub mod Covers
pub mod Claims
