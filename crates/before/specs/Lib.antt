pub mod Earlier
pub mod Reading
pub mod Planning
pub mod Answers
pub mod Claims
