-- Walks along the legs of a pattern. All of this is this project's own.
use Rattle.std.specs.Prelude.{List, ℕ, zero, suc, Bool, true, false, Some, Contains, slice_get, ◌≡◌, ◌⊎◌}
use Rattle.chase_laws.specs.Graph.{NumberedGraph, HasRow}
use Rattle.chase_laws.specs.Valuation.{FitsSlot}
use Rattle.near_lists.specs.declared.legs.Leg.{Leg}
use Rattle.list_pool.specs.Pool.{list_at}

-- the graph has a row with the predicate from m to n, or, backward, from n to m
abbrev pub HasRowBy : NumberedGraph → Bool → ℕ → ℕ → ℕ → Type 0
HasRowBy G true m p n = HasRow G m p n
HasRowBy G false m p n = HasRow G n p m

-- a leg leads from m to n, which fits the slot there
abbrev pub Leads : NumberedGraph → Leg → ℕ → ℕ → Type 0
Leads G leg m n = FitsSlot G leg.slot n × HasRowBy G leg.forward m leg.pred n

-- in a walk from the start, the legs of that count, taken one after another, bring to the slot the name; before the first
-- leg the start alone stands at slot 0
abbrev pub Brings : NumberedGraph → List Leg → ℕ → ℕ → ℕ → ℕ → Type 0
Brings G legs start zero slot name = (slot ≡ 0) × (name ≡ start)
Brings G legs start (suc count) slot name =
    Brings G legs start count slot name ⊎ ((leg : Leg) × (slice_get legs count ≡ Some leg) × (leg.far ≡ slot) × ((m : ℕ) × Brings G legs start count leg.near m × Leads G leg m name))

-- by the lists of the legs of a walk from the start, the name stands at the slot: it is the start at slot 0, or stands in
-- the list of a leg that leads there
abbrev pub IsFound : List Leg → List (List ℕ) → ℕ → ℕ → ℕ → Type 0
IsFound legs lists start slot name =
    ((slot ≡ 0) × (name ≡ start)) ⊎ ((j : ℕ) × (leg : Leg) × (slice_get legs j ≡ Some leg) × (leg.far ≡ slot) × Contains (list_at lists j) name)
