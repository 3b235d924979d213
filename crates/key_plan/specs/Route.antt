-- A pattern in the order of a search.
use Rattle.std.specs.Prelude.{List, ℕ, All, Contains, map, length, slice_get, slice_index, slice_index_or, ◌≡◌, ◌≢◌, ◌<◌, ◌≤◌, ◌⊎◌}
use Rattle.chase_laws.specs.declared.pattern.Edge.{Edge}
use Rattle.chase_laws.specs.Shape.{Shape, IsRadius}
use Rattle.key_plan.specs.Order.{IsOrder}

-- What a plan tells (this project's own): a pattern whose slots are numbered by their places in an order, the slot of
-- the first pattern at each place, the place of each slot, and the radius.
pub record Route : Type 0 where
  pub shape : Shape
  pub order : List ℕ
  pub place : List ℕ
  pub radius : ℕ

-- an edge between the places of its slots
abbrev pub moved : List ℕ → Edge → Edge
moved place e = record { from = slice_index place e.from; pred = e.pred; to = slice_index place e.to }

-- the place of each slot: two lists of the same numbers that undo each other
pub record AreInverse (order place : List ℕ) : Type 0 where
  pub as_long : length place ≡ length order
  pub within : (s : ℕ) → s < length order → slice_index place s < length order
  pub place_of : (k : ℕ) → k < length order → slice_index place (slice_index order k) ≡ k
  pub slot_at : (s : ℕ) → s < length order → slice_index order (slice_index place s) ≡ s

-- The plan is that of pattern Q: its radius is Q's, its order is that of Q's slots in a search, and its pattern is Q with each
-- slot and each end of an edge under its place.
pub record IsPlanOf (Q : Shape) (P : Route) : Type 0 where
  pub radius : IsRadius Q P.radius
  pub order : IsOrder Q P.order
  pub first : slice_index P.order 0 ≡ 0
  pub places : AreInverse P.order P.place
  pub as_many : length P.shape.slots ≡ length Q.slots
  pub slots : (k : ℕ) → k < length Q.slots → slice_get P.shape.slots k ≡ slice_get Q.slots (slice_index P.order k)
  pub edges : P.shape.edges ≡ map (moved P.place) Q.edges

-- an edge from place s to an earlier one, or the other way round
abbrev pub IsProper : ℕ → Edge → Type 0
IsProper s e = ((e.from ≡ s) × (e.to < s)) ⊎ ((e.from < s) × (e.to ≡ s))

-- The edges that place s adds to the places before it: exactly those of the pattern that have one end there and none
-- behind it. At each place but 0 the first of them leads to an earlier place.
pub record IsBlock (P : Shape) (s : ℕ) (block : List Edge) : Type 0 where
  pub some : s ≢ 0 → 0 < length block
  pub leads : s ≢ 0 → (d : Edge) → IsProper s (slice_index_or block 0 d)
  pub ends : All (λ e. IsProper s e ⊎ ((e.from ≡ s) × (e.to ≡ s))) block
  pub every : All (λ e. e.from ≤ s → e.to ≤ s → ((e.from < s) × (e.to < s)) ⊎ Contains block e) P.edges
  pub only : All (Contains P.edges) block
