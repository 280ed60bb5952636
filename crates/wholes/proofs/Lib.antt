-- The laws of the common measure, the least common multiple and the rounded quotient, for the proofs here and for callers.
pub mod MeasureLaws
pub mod MultipleLaws
pub mod WithinLaws
pub mod CeilingLaws
pub mod Claims
pub mod Worked
