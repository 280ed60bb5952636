-- The laws of the ring that the functions' proofs need: cover, the phase rule and who runs.
pub mod CoverLaws
pub mod StandLaws
pub mod PhaseLaws
pub mod WhoLaws
