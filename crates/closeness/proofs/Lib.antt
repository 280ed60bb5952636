pub mod RangesLaws
pub mod GainedLaws
pub mod BeginsLaws
pub mod EarlyLaws
