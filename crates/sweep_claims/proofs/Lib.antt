pub mod NumberLaws
pub mod CountLaws
pub mod OpensLaws
pub mod Claims
