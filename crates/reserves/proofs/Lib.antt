-- The laws of the reserves that the functions' proofs need: sums, starts and whole processors.
pub mod Starts
pub mod SummedLaws
pub mod WholeLaws
