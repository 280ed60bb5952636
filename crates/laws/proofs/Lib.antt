pub mod Tests
pub mod Orders
pub mod Choices
pub mod SameLaws
