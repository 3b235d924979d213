-- what callers of this crate read
pub mod Crews
-- inner invariants and words of the proofs
pub mod Bases
pub mod CrewMembers
pub mod Batches
pub mod Workspaces
pub mod Hints
