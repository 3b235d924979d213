-- What proofs of the crates above cite. No other proof file of this crate is cited outside it.
pub use Rattle.key_file.proofs.NumberedLemmas.{AreNamed, all_named, few_names, flag_next, folding_of, rows_stay, rows_within, type_found, type_within}
pub use Rattle.key_file.proofs.KeyLemmas.{file_push, key_facts}
pub use Rattle.key_file.proofs.PatternLemmas.{key_pattern}
pub use Rattle.key_file.proofs.CompileLemmas.{HasGrown-with_term}
