-- What proofs of the crates above cite. No other proof file of this crate is cited outside it.
pub use Rattle.proof_file.proofs.InNumbers.{in_numbers_parts, left_stays, names_more, numbers_more}
pub use Rattle.proof_file.proofs.OnceLemmas.{proof_once}
pub use Rattle.proof_file.proofs.SlotLemmas.{supported_at}
