-- What proofs of the crates above cite. No other proof file of this crate is cited outside it.
pub use Rattle.proof_check.proofs.SupportedLemmas.{derived_supported, patterns_valid}
