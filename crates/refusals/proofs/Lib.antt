pub mod FirstLaws
pub mod NumberLaws
