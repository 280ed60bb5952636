-- The laws that the proof of `places_of` needs.
pub mod ListedLaws
