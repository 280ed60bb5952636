pub mod GroupLaws
pub mod NumberLaws
pub mod ReachLaws
