-- what callers of this crate read
pub mod Pairs
pub mod Stop
-- inner invariants and words of the proofs
pub mod Folds
pub mod Key
pub mod Gathered
pub mod Bounds
