-- The laws that the proof of `stand_after` needs.
pub mod AfterLaws
