-- what callers of this crate read
pub mod Held
pub mod KeyRange
pub mod Plans
pub mod Both
-- inner invariants and words of the proofs
pub mod Kept
pub mod Part
