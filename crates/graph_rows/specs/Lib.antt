-- what callers of this crate read
pub mod Rows
pub mod GraphFile
pub mod Loaded
pub mod Numbered
pub mod NumberedGrowth
-- inner invariants and words of the proofs
pub mod Threes
pub mod Feeding
