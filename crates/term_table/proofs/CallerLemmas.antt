-- What proofs of the crates above cite. No other proof file of this crate is cited outside it.
pub use Rattle.term_table.proofs.NumberingLemmas.{is_named-added, is_named-at, is_named-came, is_named-with_term, is_named-with_terms, length-with_terms, names_of-append, place_of-at, place_of-with_terms, place_of-within, same_term-Decides, same_term-refl, same_term-true, slice_get-added, slice_get-append, slice_get-append_left, slice_get-place_of, slice_get-push, with_term-named, with_term-new}
pub use Rattle.term_table.proofs.NumberingLemmas.{AreDistinct-names_of, is_named-names_of, place-is_named, slice_get-with_term}
pub use Rattle.term_table.proofs.FoldingLemmas.{fold_of, fold_of-least, folded_at, folds_at}
pub use Rattle.term_table.proofs.NumberingLemmas.{AreDistinct-with_term, length-with_term}
