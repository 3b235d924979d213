-- Lists that are valuations of the first slots of a pattern (this project's own).
use Rattle.std.specs.Prelude.{List, [], ◌∷◌, ◌++◌, ℕ, Bool, take, Some, Contains, All, AllPairs, length, slice_get, slice_index, slice_index_or, ⊤, ◌≡◌, ◌≢◌, ◌<◌, ◌≤◌}
use Rattle.chase_laws.specs.declared.pattern.Slot.{Slot}
use Rattle.chase_laws.specs.declared.pattern.Slot.TheVariants.{Entity, Any as AnyOf, Value, Folded, Fixed}
use Rattle.chase_laws.specs.declared.pattern.Edge.{Edge}
use Rattle.chase_laws.specs.Shape.{Shape}
use Rattle.chase_laws.specs.Graph.{NumberedGraph, HasRow}
use Rattle.chase_laws.specs.Valuation.{IsValuation, FitsSlot, AgreeAt, Coincide}

-- an edge whose ends both have a number is a row
abbrev pub EdgeHolds : NumberedGraph → List ℕ → Edge → Type 0
EdgeHolds G p e = e.from < length p → e.to < length p → HasRow G (slice_index p e.from) e.pred (slice_index p e.to)

-- numbers for the first slots that are so far as a valuation asks
pub record IsPart (G : NumberedGraph) (Q : Shape) (p : List ℕ) : Type 0 where
  pub few : length p ≤ length Q.slots
  pub different : AllPairs (λ m n. m ≢ n) p
  pub kinds : (s : ℕ) (slot : Slot) → s < length p → slice_get Q.slots s ≡ Some slot → FitsSlot G slot (slice_index p s)
  pub edges : All (EdgeHolds G p) Q.edges

-- two such lists that agree at each slot
pub record IsPair (G : NumberedGraph) (Q : Shape) (same : ℕ → ℕ → Bool) (p q : List ℕ) : Type 0 where
  pub left : IsPart G Q p
  pub right : IsPart G Q q
  pub as_long : length q ≡ length p
  pub agree : (s : ℕ) (slot : Slot) → s < length p → slice_get Q.slots s ≡ Some slot → AgreeAt G same s slot (slice_index p s) (slice_index q s)

-- the lists p and q are completed by the valuations v and w, which coincide and begin with them
pub record AreCompletedBy (G : NumberedGraph) (Q : Shape) (same : ℕ → ℕ → Bool) (p q v w : List ℕ) : Type 0 where
  pub left : IsValuation G Q v
  pub right : IsValuation G Q w
  pub coincide : Coincide G Q same v w
  pub begins_left : take (length p) v ≡ p
  pub begins_right : take (length q) w ≡ q

-- the list p is completed by the valuation v, which begins with it
pub record IsCompletedBy (G : NumberedGraph) (Q : Shape) (p v : List ℕ) : Type 0 where
  pub valuation : IsValuation G Q v
  pub begins : take (length p) v ≡ p

-- a slot at which nothing is asked of two numbers: a wildcard or a constant
abbrev pub IsBare : Slot → Type 0
IsBare (Entity t) = ⊥
IsBare (AnyOf t) = ⊤
IsBare Value = ⊥
IsBare Folded = ⊥
IsBare (Fixed c) = ⊤

-- the slots from a place on are bare
abbrev pub AreBareFrom : Shape → ℕ → Type 0
AreBareFrom Q place = (s : ℕ) (slot : Slot) → place ≤ s → slice_get Q.slots s ≡ Some slot → IsBare slot

-- at a value variable both numbers are one
abbrev pub AreTwins : Slot → ℕ → ℕ → Type 0
AreTwins Value m n = m ≡ n
AreTwins (Entity t) m n = ⊤
AreTwins (AnyOf t) m n = ⊤
AreTwins Folded m n = ⊤
AreTwins (Fixed c) m n = ⊤

-- each number that these edges allow behind the list is among the chosen ones
abbrev pub Covers : NumberedGraph → List ℕ → List Edge → List ℕ → Type 0
Covers G p block chosen = (m : ℕ) → All (EdgeHolds G (p ++ m ∷ [])) block → Contains chosen m

-- each number that is fit for the slot and that these edges allow is among the chosen ones
abbrev pub CoversFit : NumberedGraph → Slot → List ℕ → List Edge → List ℕ → Type 0
CoversFit G slot p block chosen = (m : ℕ) → FitsSlot G slot m → All (EdgeHolds G (p ++ m ∷ [])) block → Contains chosen m

-- the edge at a place of the block is a row, of the list with this number behind it, unless the block ends before
abbrev pub HoldsAt : NumberedGraph → List ℕ → List Edge → ℕ → ℕ → Type 0
HoldsAt G p block place m = (d : Edge) → place < length block → EdgeHolds G (p ++ m ∷ []) (slice_index_or block place d)

-- a pattern of at most 16 slots whose edges have slots at their ends
pub record IsReady (P : Shape) : Type 0 where
  pub few : length P.slots ≤ 16
  pub ends : All (λ e. (e.from < length P.slots) × (e.to < length P.slots)) P.edges

-- the numbers of a list, each brought from its place
pub record IsPlaced (place v' v : List ℕ) : Type 0 where
  pub long : length v ≡ length place
  pub each : (s : ℕ) → s < length place → slice_index v s ≡ slice_index v' (slice_index place s)

-- the name of a constant
abbrev pub IsConstantOf : Slot → ℕ → Type 0
IsConstantOf (Fixed c) n = n ≡ c
IsConstantOf (Entity t) n = ⊤
IsConstantOf (AnyOf t) n = ⊤
IsConstantOf Value n = ⊤
IsConstantOf Folded n = ⊤
