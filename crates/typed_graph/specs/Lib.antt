-- what callers of this crate read
pub mod Table
-- inner invariants and words of the proofs
pub mod Types
pub mod Indexed
pub mod Blocks
