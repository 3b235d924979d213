-- what callers of this crate read
pub mod Verdict
pub mod StepEntries
pub mod Reasons
pub mod Ready
-- inner invariants and words of the proofs
pub mod NumberVerdict
pub mod Rows
