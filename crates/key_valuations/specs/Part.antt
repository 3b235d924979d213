-- Lists that are valuations of the first slots of a pattern (this project's own).
use Rattle.std.specs.Prelude.{List, [], ◌∷◌, ◌++◌, ℕ, Some, All, AllPairs, length, slice_get, slice_index, slice_index_or, ◌≡◌, ◌≢◌, ◌<◌, ◌≤◌}
use Rattle.chase_laws.specs.declared.pattern.Slot.{Slot}
use Rattle.chase_laws.specs.declared.pattern.Edge.{Edge}
use Rattle.chase_laws.specs.Shape.{Shape}
use Rattle.chase_laws.specs.Graph.{NumberedGraph, HasRow}
use Rattle.chase_laws.specs.Valuation.{FitsSlot}

-- an edge whose ends both have a number is a row
abbrev pub EdgeHolds : NumberedGraph → List ℕ → Edge → Type 0
EdgeHolds G p e = e.from < length p → e.to < length p → HasRow G (slice_index p e.from) e.pred (slice_index p e.to)

-- numbers for the first slots that are so far as a valuation asks
pub record IsPart (G : NumberedGraph) (Q : Shape) (p : List ℕ) : Type 0 where
  pub few : length p ≤ length Q.slots
  pub different : AllPairs (λ m n. m ≢ n) p
  pub kinds : (s : ℕ) (slot : Slot) → s < length p → slice_get Q.slots s ≡ Some slot → FitsSlot G slot (slice_index p s)
  pub edges : All (EdgeHolds G p) Q.edges

-- the edge at a place of the block is a row, of the list with this number behind it, unless the block ends before
abbrev pub HoldsAt : NumberedGraph → List ℕ → List Edge → ℕ → ℕ → Type 0
HoldsAt G p block place m = (d : Edge) → place < length block → EdgeHolds G (p ++ m ∷ []) (slice_index_or block place d)

-- a pattern of at most 16 slots whose edges have slots at their ends
pub record IsReady (P : Shape) : Type 0 where
  pub few : length P.slots ≤ 16
  pub ends : All (λ e. (e.from < length P.slots) × (e.to < length P.slots)) P.edges

-- the numbers of a list, each brought from its place
pub record IsPlaced (place v' v : List ℕ) : Type 0 where
  pub long : length v ≡ length place
  pub each : (s : ℕ) → s < length place → slice_index v s ≡ slice_index v' (slice_index place s)
