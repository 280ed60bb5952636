pub mod RowsLaws
pub mod SettledLaws
