pub mod ListLaws
pub mod Claims
