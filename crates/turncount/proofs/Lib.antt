-- The laws that the proofs of the two functions need.
pub mod AmidLaws
pub mod FigureLaws
