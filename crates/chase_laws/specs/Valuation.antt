-- Valuations of a pattern, and two of them that coincide.
use Rattle.std.specs.Prelude.{List, ℕ, Bool, IsTrue, Some, length, slice_get, slice_index, ◌≡◌, ◌≢◌, ⊤, AllPairs, All}
use Rattle.chase_laws.specs.declared.pattern.Slot.{Slot}
use Rattle.chase_laws.specs.declared.pattern.Slot.TheVariants.{Entity, Any, Value, Folded, Fixed}
use Rattle.chase_laws.specs.Shape.{Shape}
use Rattle.chase_laws.specs.Graph.{NumberedGraph, HasRow, HasType, IsLiteral, AreAlike}

-- A number may stand at a slot: at an entity variable or a wildcard it is no literal and has the slot's type, at a
-- value variable, folded or not, it is a literal, and at a constant it is that very name.
abbrev pub FitsSlot : NumberedGraph → Slot → ℕ → Type 0
FitsSlot G (Entity t) n = ¬ (IsLiteral G n) × HasType G n t
FitsSlot G (Any t) n = ¬ (IsLiteral G n) × HasType G n t
FitsSlot G Value n = IsLiteral G n
FitsSlot G Folded n = IsLiteral G n
FitsSlot G (Fixed c) n = n ≡ c

-- a number may stand at slot s of the pattern
abbrev pub FitsAt : NumberedGraph → Shape → ℕ → ℕ → Type 0
FitsAt G Q s n = (slot : Slot) × (slice_get Q.slots s ≡ Some slot) × FitsSlot G slot n

-- The pattern designates a type of n: n may stand at slot 0, the variable x, which is an entity variable in every valid
-- pattern ("Keys for Graphs", section 2).
abbrev pub Designates : NumberedGraph → Shape → ℕ → Type 0
Designates G Q n = FitsAt G Q 0 n

-- A valuation ("Keys for Graphs", section 2): one number for each slot, each fit for its slot, and each edge's image a
-- row. That all numbers differ, those of value variables and constants included, is this project's own choice.
pub record IsValuation (G : NumberedGraph) (Q : Shape) (v : List ℕ) : Type 0 where
  pub one_each : length v ≡ length Q.slots
  pub different : AllPairs (λ m n. m ≢ n) v
  pub kinds : (s : ℕ) (slot : Slot) → slice_get Q.slots s ≡ Some slot → FitsSlot G slot (slice_index v s)
  pub edges : All (λ e. HasRow G (slice_index v e.from) e.pred (slice_index v e.to)) Q.edges

-- How the numbers of two valuations at slot s agree, up to a sameness of numbers: at a value variable they are equal,
-- at a folded one alike, and at an entity variable other than slot 0 the same. Wildcards carry no condition.
abbrev pub AgreeAt : NumberedGraph → (ℕ → ℕ → Bool) → ℕ → Slot → ℕ → ℕ → Type 0
AgreeAt G same s (Entity t) m n = s ≢ 0 → IsTrue (same m n)
AgreeAt G same s (Any t) m n = ⊤
AgreeAt G same s Value m n = m ≡ n
AgreeAt G same s Folded m n = AreAlike G m n
AgreeAt G same s (Fixed c) m n = ⊤

-- two valuations coincide up to a sameness: they agree at each slot ("Keys for Graphs", section 2)
abbrev pub Coincide : NumberedGraph → Shape → (ℕ → ℕ → Bool) → List ℕ → List ℕ → Type 0
Coincide G Q same v w = (s : ℕ) (slot : Slot) → slice_get Q.slots s ≡ Some slot → AgreeAt G same s slot (slice_index v s) (slice_index w s)

-- two valuations at a and at b that coincide
pub record IsMatch (G : NumberedGraph) (Q : Shape) (same : ℕ → ℕ → Bool) (a b : ℕ) (v w : List ℕ) : Type 0 where
  pub left : IsValuation G Q v
  pub right : IsValuation G Q w
  pub coincide : Coincide G Q same v w
  pub at_a : slice_index v 0 ≡ a
  pub at_b : slice_index w 0 ≡ b

-- some key has two such valuations
pub record Matches (G : NumberedGraph) (K : List Shape) (same : ℕ → ℕ → Bool) (a b : ℕ) : Type 0 where
  pub key : ℕ
  pub pattern : Shape
  pub found : slice_get K key ≡ Some pattern
  pub left : List ℕ
  pub right : List ℕ
  pub witness : IsMatch G pattern same a b left right
