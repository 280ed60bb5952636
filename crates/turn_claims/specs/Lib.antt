pub mod List
pub mod Claims
