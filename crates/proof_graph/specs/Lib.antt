-- what callers of this crate read
pub mod Way
-- inner invariants and words of the proofs
pub mod Tree
pub mod Parts
pub mod Built
