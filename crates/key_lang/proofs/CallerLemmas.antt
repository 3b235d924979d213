-- What proofs of the crates above cite. No other proof file of this crate is cited outside it.
pub use Rattle.key_lang.proofs.OnceLemmas.{keys_once}
pub use Rattle.key_lang.proofs.ReadBack.{keys_named, keys_spelled}
