-- What proofs of the crates above cite. No other proof file of this crate is cited outside it.
pub use Rattle.match_run.proofs.OfParts.{CandidateLaw, more_too}
