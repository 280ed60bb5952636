pub mod StandingLaws
pub mod WhoLaws
