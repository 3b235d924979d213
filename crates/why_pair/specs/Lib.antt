-- what callers of this crate read
pub mod Kept
pub mod Needed
pub mod Why
pub mod Provable
-- inner words of the proofs
pub mod Marking
pub mod Relinked
