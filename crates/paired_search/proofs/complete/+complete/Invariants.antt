use Rattle.std.proofs.Common.{List, ℕ, ◌≡◌, ◌-◌, Contains, length, take, get_or}
use Rattle.paired_search.specs.Part.{IsCompletedBy}
use Rattle.paired_search.proofs.complete.+complete.Given as goal

abbrev pub decreases-complete : goal.decreases-complete
decreases-complete l = length l.plan.now.shape.slots - length l.places.now

abbrev pub invariant-loop-m : goal.invariant-loop-m
invariant-loop-m l = record {
  none : (v : List ℕ) → IsCompletedBy l.graph l.plan.shape l.fn.places v → Contains (take l.m-index l.names) (get_or v l.s 0) → ⊥;
  places : l.places ≡ l.fn.places;
}
