-- what callers of this crate read
pub mod Parts
-- inner words of the proofs
pub mod Part
pub mod Marks
pub mod Counts
pub mod Listing
pub mod Leading
pub mod Search
