use Rattle.std.proofs.Common.{ℕ, ◌<◌, ◌≡◌, ◌≢◌, true, Some, slice_get, slice_index}
use Rattle.chase_laws.specs.declared.pattern.Slot.TheVariants.{Entity}
use Rattle.chase_laws.specs.Joined.{joined_by}
use Rattle.why_tests.proofs.supported.are_joined.Given as goal

abbrev pub invariant-loop-at : goal.invariant-loop-at
invariant-loop-at l = (s t : ℕ) → s < l.at → slice_get l.slots s ≡ Some (Entity t) → s ≢ 0 → joined_by l.ways (slice_index l.entry.left s) (slice_index l.entry.right s) ≡ true
