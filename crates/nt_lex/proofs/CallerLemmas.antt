-- What proofs of the crates above cite. No other proof file of this crate is cited outside it.
pub use Rattle.nt_lex.proofs.AnswerLemmas.{only_from}
pub use Rattle.nt_lex.proofs.BoundaryLemmas.{blank_low, ends_at_a_character}
pub use Rattle.nt_lex.proofs.LaneLemmas.{bits_of_marks, marks_either, marks_equal, run_ends_in, run_from, run_goes_on}
pub use Rattle.nt_lex.proofs.ReadingLemmas.{says_once}
pub use Rattle.nt_lex.proofs.ScanLemmas.{heads_differ, next_fails, span_once}
pub use Rattle.nt_lex.proofs.TagLemmas.{primary_all, subtag_all}
pub use Rattle.nt_lex.proofs.TotalLemmas.{says_total}
