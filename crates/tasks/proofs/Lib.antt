pub mod SetLaws
pub mod Firsts
pub mod FirstLaws
pub mod SearchLaws
pub mod Some
