pub mod PrintLaws
pub mod Claims
pub mod Worked
