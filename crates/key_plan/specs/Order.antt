-- The slots of a pattern in the order of a search (this project's own).
use Rattle.std.specs.Prelude.{List, ℕ, Option, Some, None, Contains, length, slice_get, slice_index, ◌≡◌, ◌≢◌, ◌<◌, ◌≤◌, ◌⊎◌, ◌↔◌}
use Rattle.chase_laws.specs.declared.pattern.Slot.{Slot}
use Rattle.chase_laws.specs.declared.pattern.Slot.TheVariants.{Entity, Any, Value, Folded, Fixed}
use Rattle.chase_laws.specs.Shape.{Shape, AreBeside}

-- how late a slot comes: a constant first, then a value variable, then an entity variable, and a wildcard last
abbrev pub rank_of : Option Slot → ℕ
rank_of (Some (Fixed c)) = 0
rank_of (Some Value) = 1
rank_of (Some Folded) = 1
rank_of (Some (Entity t)) = 2
rank_of (Some (Any t)) = 3
rank_of None = 4

-- slot s comes before slot t, or is t, where both may come next: it has a smaller rank, or the same one and no greater number
abbrev pub ComesFirst : Shape → ℕ → ℕ → Type 0
ComesFirst Q s t = (rank_of (slice_get Q.slots s) < rank_of (slice_get Q.slots t)) ⊎ ((rank_of (slice_get Q.slots s) ≡ rank_of (slice_get Q.slots t)) × (s ≤ t))

-- an edge joins slot s with one of the first k slots of an order
abbrev pub IsBesideFirst : Shape → List ℕ → ℕ → ℕ → Type 0
IsBesideFirst Q order k s = (j : ℕ) × (j < k) × AreBeside Q (slice_index order j) s

-- slot s is none of the first k of an order
abbrev pub IsNoneOfFirst : List ℕ → ℕ → ℕ → Type 0
IsNoneOfFirst order k s = (j : ℕ) → j < k → slice_index order j ≢ s

-- Every slot once: slot 0, and then always, of those that an edge joins with one before, the one that comes first.
pub record IsOrder (Q : Shape) (order : List ℕ) : Type 0 where
  pub one_each : length order ≡ length Q.slots
  pub slots : (s : ℕ) → Contains order s ↔ (s < length Q.slots)
  pub first : slice_index order 0 ≡ 0
  pub joined : (k : ℕ) → k < length order → k ≢ 0 → IsBesideFirst Q order k (slice_index order k)
  pub least : (k : ℕ) → k < length order → k ≢ 0 → (s : ℕ) → s < length Q.slots → IsNoneOfFirst order k s → IsBesideFirst Q order k s → ComesFirst Q (slice_index order k) s
