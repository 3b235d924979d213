-- What proofs of the crates above cite. No other proof file of this crate is cited outside it.
pub use Rattle.term_text.proofs.AppendLemmas.{pieces_joined}
pub use Rattle.term_text.proofs.ReadBack.{spelled_whole}
