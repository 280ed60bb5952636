pub mod TextLaws
pub mod Claims
