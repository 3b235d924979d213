-- what callers of this crate read
pub mod Leads
pub mod Steps
pub mod Tells
pub mod TermNumbers
pub mod CanonicalProof
pub mod Words
pub mod ProofText
pub mod Faults
-- inner invariants and words of the proofs
pub mod InOrder
pub mod Progress
pub mod Splitting
pub mod ReadLines
