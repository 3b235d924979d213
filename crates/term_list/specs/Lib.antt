-- what callers of this crate read
pub mod Parts
pub mod Triples
-- inner invariants and words of the proofs
pub mod Packed
