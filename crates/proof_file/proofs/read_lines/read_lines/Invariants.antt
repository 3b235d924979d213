use Rattle.std.proofs.Common.{◌≡◌, ◌+◌, ◌≤◌, IsTrue, IsUtf8, length}
use Rattle.nt_reader.specs.Lines.{cut_of}
use Rattle.proof_file.specs.Splitting.{returned_after}
use Rattle.proof_file.specs.Progress.{progress_with, IsBelow}
use Rattle.proof_file.proofs.ReadLemmas.{GoesOn}
use Rattle.proof_file.proofs.read_lines.read_lines.Given as goal

abbrev pub invariant-loop-split : goal.invariant-loop-split
invariant-loop-split l = record {
  on : GoesOn l.text (progress_with l.terms l.progress) l.number l.rest;
  last : (cut_of l.text).rest ≡ (cut_of l.rest).rest;
  returned : (cut_of l.text).returned ≡ returned_after l.returned l.rest;
  count : length (cut_of l.text).ended + 1 ≡ l.number + length (cut_of l.rest).ended;
  small : l.number + length l.rest ≤ length l.text + 1;
  utf8 : IsTrue l.is_utf8 → IsUtf8 l.rest;
  below : IsBelow (length l.terms) l.progress;
}

abbrev pub decreases-loop-split : goal.decreases-loop-split
decreases-loop-split l = length l.rest
