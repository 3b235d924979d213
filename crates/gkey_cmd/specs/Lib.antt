-- what callers of this crate read
pub mod Commands
pub mod Limits
pub mod Texts
pub mod Reading
pub mod HowFar
pub mod Failing
pub mod Sent
pub mod Match
pub mod Demo
pub mod Prove
pub mod Check
pub mod Merge
pub mod Entities
pub mod Why
pub mod Written
pub mod Run
-- inner invariants and words of the proofs
pub mod ChaseOptions
pub mod ChaseEnds
pub mod Told
pub mod Endings
