use Rattle.std.proofs.Common.{ℕ, Contains, drop, ◌<◌}
use Rattle.valuation_groups.specs.Groups.{row_in}
use Rattle.signature_chase.specs.Owning.{PutsInto}
use Rattle.signature_chase.proofs.owning.put_group.Given as goal

abbrev pub invariant-loop-row : goal.invariant-loop-row
invariant-loop-row l = PutsInto l.fn.owners l.owners l.place (λ m. (i : ℕ) × (i < l.row) × Contains (drop 1 (row_in l.group i)) m)
