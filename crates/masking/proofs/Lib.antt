pub mod EndsLaws
pub mod GainLaws
pub mod MaskedLaws
pub mod Claims
pub mod OwnLaws
