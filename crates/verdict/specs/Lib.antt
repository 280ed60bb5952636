pub mod Verdict
pub mod Numbers
pub mod Reserve
pub mod Claims
