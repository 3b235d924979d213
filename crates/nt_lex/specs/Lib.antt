-- what callers of this crate read
pub mod Chars
pub mod Scans
pub mod Written
pub mod Spelling
pub mod Reading
-- inner invariants and words of the proofs
pub mod Parts
