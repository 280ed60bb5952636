pub mod Computing
pub mod RowLaws
pub mod Claims
