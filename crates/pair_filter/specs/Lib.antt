-- what callers of this crate read
pub mod Depth
pub mod Selection
pub mod Keys
-- inner invariants and words of the proofs
pub mod Along
pub mod Runs
