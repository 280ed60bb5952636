pub mod CountLaws
pub mod StandLaws
pub mod StandingLaws
pub mod WindowLaws
pub mod Claims
pub mod Worked
