-- what callers of this crate read
pub mod Setup
pub mod Table
pub mod Running
pub mod Noted
pub mod Taking
pub mod Settling
pub mod Holding
pub mod Present
-- inner invariants and words of the proofs
pub mod Inner
pub mod Kept
pub mod Gathering
pub mod Passing
