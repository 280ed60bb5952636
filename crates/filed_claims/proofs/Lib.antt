pub mod FiledLaws
pub mod RuleLaws
pub mod ReportLaws
pub mod InterruptLaws
pub mod StepLaws
pub mod MaskedLaws
pub mod ShownLaws
pub mod Claims
