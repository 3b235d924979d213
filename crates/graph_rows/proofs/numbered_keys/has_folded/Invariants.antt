use Rattle.std.proofs.Common.{ℕ, Some, slice_get, ◌<◌, ◌≢◌}
use Rattle.chase_laws.specs.declared.pattern.Slot.TheVariants.{Folded}
use Rattle.graph_rows.proofs.numbered_keys.has_folded.Given as goal

abbrev pub invariant-loop-slot : goal.invariant-loop-slot
invariant-loop-slot l = (s : ℕ) → s < l.slot-index → slice_get l.slots s ≢ Some Folded
