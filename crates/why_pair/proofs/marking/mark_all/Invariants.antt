use Rattle.std.proofs.Common.{◌≡◌, ◌≤◌, length}
use Rattle.why_pair.specs.Marking.{MarksFrom}
use Rattle.why_pair.proofs.marking.mark_all.Given as goal

abbrev pub invariant-loop-at : goal.invariant-loop-at
invariant-loop-at l = record {
  inside : l.at ≤ length l.journal;
  count : length l.marks ≡ length l.journal;
  marks : MarksFrom l.patterns l.journal l.goal l.at l.marks;
}

abbrev pub decreases-loop-at : goal.decreases-loop-at
decreases-loop-at l = l.at
