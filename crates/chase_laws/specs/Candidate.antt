-- Candidate pairs: those that may be worth a search (this project's own).
use Rattle.std.specs.Prelude.{List, ℕ, Some, All, AllPairs, Contains, length, slice_get, ◌≡◌, ◌<◌, ◌⊎◌, ◌↔◌, ⊤}
use Rattle.chase_laws.specs.declared.pattern.Slot.{Slot}
use Rattle.chase_laws.specs.declared.pattern.Slot.TheVariants.{Entity, Any, Value, Folded, Fixed}
use Rattle.chase_laws.specs.declared.pattern.Edge.{Edge}
use Rattle.chase_laws.specs.Shape.{Shape}
use Rattle.chase_laws.specs.Graph.{NumberedGraph, HasRow, IsLiteral, AreAlike}
use Rattle.chase_laws.specs.Valuation.{Designates}

-- Two names share what an edge from slot 0 asks for: under its predicate a literal of both, where it leads to a value
-- variable, or two literals that are alike, where to a folded one. Other edges ask for nothing.
abbrev pub Shares : NumberedGraph → Slot → ℕ → ℕ → ℕ → Type 0
Shares G Value p a b = (l : ℕ) × IsLiteral G l × HasRow G a p l × HasRow G b p l
Shares G Folded p a b = (l m : ℕ) × IsLiteral G l × IsLiteral G m × HasRow G a p l × HasRow G b p m × AreAlike G l m
Shares G (Entity t) p a b = ⊤
Shares G (Any t) p a b = ⊤
Shares G (Fixed c) p a b = ⊤

-- a and b share what an edge of the pattern asks for, if it is one from slot 0
abbrev pub SharesAlong : NumberedGraph → Shape → ℕ → ℕ → Edge → Type 0
SharesAlong G Q a b e = e.from ≡ 0 → (slot : Slot) → slice_get Q.slots e.to ≡ Some slot → Shares G slot e.pred a b

-- what one key asks of a candidate pair: it designates a type of both, and they share what its edges from slot 0 ask for
pub record IsCandidateUnder (G : NumberedGraph) (Q : Shape) (a b : ℕ) : Type 0 where
  pub left : Designates G Q a
  pub right : Designates G Q b
  pub share : All (SharesAlong G Q a b) Q.edges

-- a candidate pair: a is below b, and some key asks no more of them than what they have
pub record IsCandidate (G : NumberedGraph) (K : List Shape) (a b : ℕ) : Type 0 where
  pub below : a < b
  pub key : ℕ
  pub pattern : Shape
  pub found : slice_get K key ≡ Some pattern
  pub under : IsCandidateUnder G pattern a b

-- Pairs in ascending order, each once: by the first number, then by the second.
abbrev pub AreAscending : List (ℕ × ℕ) → Type 0
AreAscending ps = AllPairs (λ x y. (x.0 < y.0) ⊎ ((x.0 ≡ y.0) × (x.1 < y.1))) ps

-- n is the number of candidate pairs: some list of them in ascending order has all of them, and n elements
pub record IsCandidateCount (G : NumberedGraph) (K : List Shape) (n : ℕ) : Type 0 where
  pub pairs : List (ℕ × ℕ)
  pub ascending : AreAscending pairs
  pub exact : (a b : ℕ) → Contains pairs (a, b) ↔ IsCandidate G K a b
  pub count : length pairs ≡ n
