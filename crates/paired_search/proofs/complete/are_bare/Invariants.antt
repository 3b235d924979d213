use Rattle.std.proofs.Common.{ℕ, Some, slice_get, ◌≡◌, ◌<◌, ◌≤◌}
use Rattle.chase_laws.specs.declared.pattern.Slot.{Slot}
use Rattle.paired_search.specs.Part.{IsBare}
use Rattle.paired_search.proofs.complete.are_bare.Given as goal

abbrev pub invariant-loop-place : goal.invariant-loop-place
invariant-loop-place l = (s : ℕ) (slot : Slot) → l.from ≤ s → s < l.place → slice_get l.plan.shape.slots s ≡ Some slot → IsBare slot
