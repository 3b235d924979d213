-- what callers of this crate read
pub mod Term
pub mod Faults
pub mod Answers
