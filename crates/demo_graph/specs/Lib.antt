-- what callers of this crate read
pub mod DemoTexts
pub mod Counts
pub mod DemoLine
-- inner invariants and words of the proofs
pub mod Spans
