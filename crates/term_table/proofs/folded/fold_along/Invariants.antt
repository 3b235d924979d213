use Rattle.std.proofs.Common.{◌≡◌, slice_range}
use Rattle.term_table.specs.Folding.{folded_literals}
use Rattle.term_table.proofs.folded.fold_along.Given as goal

abbrev pub invariant-loop-place : goal.invariant-loop-place
invariant-loop-place l = l.folded ≡ folded_literals (slice_range l.terms l.from l.place)
