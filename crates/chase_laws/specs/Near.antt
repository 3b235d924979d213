-- Which entities a key can look at from an entity: those that can stand at an entity variable of its pattern, as far as
-- one walk from slot 0 along the pattern's edges tells (this project's own; all of them lie in the d-neighbour of "Keys
-- for Graphs", section 4.1).
use Rattle.std.specs.Prelude.{List, ℕ, zero, suc, Some, IsTrue, Contains, slice_get, ◌≡◌, ◌⊎◌}
use Rattle.chase_laws.specs.declared.pattern.Slot.TheVariants.{Entity}
use Rattle.chase_laws.specs.declared.pattern.Edge.{Edge}
use Rattle.chase_laws.specs.Shape.{Shape, reached}
use Rattle.chase_laws.specs.Graph.{NumberedGraph, HasRow}
use Rattle.chase_laws.specs.Valuation.{FitsAt, Designates}

-- an edge with these ends and this predicate
abbrev pub edge_of : ℕ → ℕ → ℕ → Edge
edge_of from pred to = record { from = from; pred = pred; to = to }

-- an edge of the pattern joins slots s and t, in either direction, and the graph has its row with m at s and n at t
abbrev pub AreLinked : NumberedGraph → Shape → ℕ → ℕ → ℕ → ℕ → Type 0
AreLinked G Q s m t n = (p : ℕ) × ((Contains Q.edges (edge_of s p t) × HasRow G m p n) ⊎ (Contains Q.edges (edge_of t p s) × HasRow G n p m))

-- A walk of d edges leads from e at slot 0 to n at slot s. Each edge leads to a slot that fewer edges do not reach, so s
-- is d edges away from slot 0; each number on the way is fit for its slot, and the graph has the row of each edge.
abbrev pub StandsAt : NumberedGraph → Shape → ℕ → ℕ → ℕ → ℕ → Type 0
StandsAt G Q e zero s n = (s ≡ 0) × (n ≡ e) × Designates G Q e
StandsAt G Q e (suc d) s n =
    ¬ (IsTrue (reached Q d s)) × FitsAt G Q s n × ((r m : ℕ) × StandsAt G Q e d r m × AreLinked G Q r m s n)

-- as far as one walk from e tells, n can stand at an entity variable of the pattern
pub record IsInReach (G : NumberedGraph) (Q : Shape) (e n : ℕ) : Type 0 where
  pub slot : ℕ
  pub type_of : ℕ
  pub is : slice_get Q.slots slot ≡ Some (Entity type_of)
  pub distance : ℕ
  pub stands : StandsAt G Q e distance slot n

-- n is near to e: it is in reach by some key. So e is near to itself where some key designates a type of it.
pub record IsNear (G : NumberedGraph) (K : List Shape) (e n : ℕ) : Type 0 where
  pub key : ℕ
  pub pattern : Shape
  pub found : slice_get K key ≡ Some pattern
  pub reach : IsInReach G pattern e n
