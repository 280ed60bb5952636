pub mod Claims
