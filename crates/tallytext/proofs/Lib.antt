pub mod ReportLaws
pub mod Claims
