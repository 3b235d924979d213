use Rattle.std.proofs.Common.{◌≡◌, drop}
use Rattle.why_pair.specs.Marking.{with_marks}
use Rattle.why_pair.proofs.marking.mark.Given as goal

abbrev pub invariant-loop-place : goal.invariant-loop-place
invariant-loop-place l = with_marks l.marks (drop l.place-index l.places) ≡ with_marks l.fn.marks l.places
