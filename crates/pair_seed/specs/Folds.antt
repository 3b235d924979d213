-- Who has which literal, up to what literals are alike to (this project's own).
use Rattle.std.specs.Prelude.{ℕ, Bool, true, false, Some, Contains, slice_get, slice_index, ◌≡◌, ◌↔◌}
use Rattle.chase_laws.specs.declared.pattern.Slot.TheVariants.{Folded}
use Rattle.chase_laws.specs.Shape.{Shape}
use Rattle.chase_laws.specs.declared.pattern.Edge.{Edge}
use Rattle.chase_laws.specs.Graph.{NumberedGraph, HasRow, IsLiteral}
use Rattle.typed_graph.specs.Table.{Table, TableHas}

-- under p, n has a literal that is alike to c
pub record HasAlike (G : NumberedGraph) (n p c : ℕ) : Type 0 where
  pub literal : ℕ
  pub is_literal : IsLiteral G literal
  pub row : HasRow G n p literal
  pub alike : slice_index G.alike literal ≡ c

-- under p, b has the literal l, or where values are folded one that is alike to l
abbrev pub Holds : NumberedGraph → Bool → ℕ → ℕ → ℕ → Type 0
Holds G true b p l = HasAlike G b p (slice_index G.alike l)
Holds G false b p l = HasRow G b p l

-- the table has (c, p, n) exactly where n has under p a literal that is alike to c
abbrev pub IsFoldTable : NumberedGraph → Table → Type 0
IsFoldTable G T = (c p n : ℕ) → TableHas T c p n ↔ HasAlike G n p c

-- an edge from slot 0 to a folded value variable
pub record IsFoldedEdge (Q : Shape) (e : Edge) : Type 0 where
  pub from : e.from ≡ 0
  pub to : slice_get Q.slots e.to ≡ Some Folded

-- if the pattern has such an edge, the table is the one that it needs
abbrev pub Serves : NumberedGraph → Table → Shape → Type 0
Serves G T Q = (e : Edge) → Contains Q.edges e → IsFoldedEdge Q e → IsFoldTable G T
