-- what callers of this crate read
pub mod Seen
-- inner invariants and words of the proofs
pub mod Rule
