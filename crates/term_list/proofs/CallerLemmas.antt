-- What proofs of the crates above cite. No other proof file of this crate is cited outside it.
pub use Rattle.term_list.proofs.PackedLemmas.{slice_get-of_push}
pub use Rattle.term_list.proofs.TripleLemmas.{length-terms_of, terms_of-append}
