use Rattle.std.proofs.Common.{◌≡◌, ◌++◌, drop}
use Rattle.why_pair.specs.Kept.{kept_by}
use Rattle.why_pair.proofs.keeping.kept.Given as goal

abbrev pub invariant-loop-at : goal.invariant-loop-at
invariant-loop-at l = l.kept.items ++ kept_by (drop l.at l.marks) (drop l.at l.journal) ≡ kept_by l.marks l.journal
