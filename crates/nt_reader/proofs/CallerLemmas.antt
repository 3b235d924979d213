-- What proofs of the crates above cite. No other proof file of this crate is cited outside it.
pub use Rattle.nt_reader.proofs.CutLemmas.{cut_append, ended_grows, some_plain, swallowed, whole_line}
pub use Rattle.nt_reader.proofs.LineLemmas.{run_once, true_false}
pub use Rattle.nt_reader.proofs.LinedLemmas.{cut_lined, lined_once}
pub use Rattle.nt_reader.proofs.OneFile.{file_once}
pub use Rattle.nt_reader.proofs.OpenLemmas.{nothing_open, open_front}
pub use Rattle.nt_reader.proofs.StateLemmas.{length-range, range_passes, take_line, take_part}
pub use Rattle.nt_reader.proofs.TextLemmas.{AllOf, IsText, text_append, text_byte, text_cons, text_low, text_nil, text_term, with_end, joined, joined_lined, lines_joined}
