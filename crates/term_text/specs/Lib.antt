-- what callers of this crate read
pub mod CanonicalText
pub mod ReadBack
pub mod Appending
-- inner invariants and words of the proofs
pub mod Escaping
pub mod Labels
pub mod Members
pub mod Lines
pub mod MemberTexts
