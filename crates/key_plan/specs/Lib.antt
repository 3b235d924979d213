-- what callers of this crate read
pub mod Distance
pub mod Order
pub mod Route
-- inner invariants and words of the proofs
pub mod Making
pub mod Inner
