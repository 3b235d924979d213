use Rattle.std.proofs.Common.{◌-◌, map, length}
use Rattle.nt_lex.specs.Chars.{is_blank}
use Rattle.nt_lex.specs.Scans.{IsRunAt}
use Rattle.key_file.specs.Compile.{HasMoreNames}
use Rattle.proof_file.specs.Steps.{term_at}
use Rattle.proof_file.specs.Progress.{AreBelow, ReadsOn}
use Rattle.proof_file.proofs.sides.read_terms.Given as goal

abbrev pub invariant-loop-next : goal.invariant-loop-next
invariant-loop-next l = record {
  grown : HasMoreNames l.initial.terms l.terms;
  below : AreBelow (length l.terms) l.numbers.items;
  run : IsRunAt is_blank l.line l.next l.next;
  on : ReadsOn l.line l.at l.next (map (term_at l.terms) l.numbers.items);
}

abbrev pub decreases-loop-next : goal.decreases-loop-next
decreases-loop-next l = length l.line - l.next
