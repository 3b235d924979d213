-- what callers of this crate read
pub mod MergedGraph
pub mod Saying
-- inner invariants and words of the proofs
pub mod Faces
pub mod Ranked
