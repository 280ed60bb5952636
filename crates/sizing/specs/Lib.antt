pub mod Reserve
pub mod Claims
