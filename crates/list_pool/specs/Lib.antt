-- what callers of this crate read
pub mod Pool
pub mod Counts
-- inner invariants and words of the proofs
pub mod OptionalCell
pub mod Links
pub mod Linked
