-- what callers of this crate read
pub mod Faults
pub mod Answers
pub mod Tokens
pub mod OpenKey
pub mod Statements
pub mod KeyText
pub mod CanonicalKeys
-- inner invariants and words of the proofs
pub mod Parts
pub mod Seen
pub mod Fair
