pub mod Least
pub mod Slack
pub mod Claims
