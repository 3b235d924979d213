-- what callers of this crate read
pub mod Line
pub mod Lines
pub mod File
pub mod Reading
pub mod Kept
-- inner invariants and words of the proofs
pub mod Judged
pub mod Keeping
