-- What a graph's fields are, and what holds of them (this project's own).
use Rattle.std.specs.Prelude.{[], ◌∷◌, ℕ, All, Contains, length, slice_index_or, ◌≡◌, ◌<◌, ◌^◌, ◌↔◌}
use Rattle.std.specs.Option.{ForSome}
use Rattle.std.specs.Ordering.{nat_cmp}
use Rattle.std.specs.Cmp.Lexicographic.{slice_cmp}
use Rattle.std.specs.List.Sorted.{IsStrictlySortedBy}
use Rattle.chase_laws.specs.Graph.{NumberedGraph, IsGraph, IsFolding, HasType}
use Rattle.typed_graph.specs.Table.{TableHas}
use Rattle.typed_graph.specs.Types.{IsTrueOf}
use Rattle.typed_graph.specs.declared.types.TypesOf.{TypesOf}
use Rattle.typed_graph.specs.declared.graph.Graph.TheInside.{Inside}

-- the graph that the fields are
abbrev pub indexed_graph : Inside → NumberedGraph
indexed_graph g = record { rows = g.rows.items; literal = g.literal.items; rdf_type = g.rdf_type; alike = g.alike.items }

-- The rows ascend as lists of three numbers, and the two tables have them, the one as they are and the other turned
-- round. What is kept of each name's types is true. All numbers are names (this project's own).
pub record IsIndexed (g : Inside) : Type 0 where
  pub ascending : IsStrictlySortedBy (slice_cmp nat_cmp) g.rows.items
  pub three : All (λ row. length row ≡ 3) g.rows.items
  pub forward : (n p c : ℕ) → TableHas g.forward n p c ↔ Contains g.rows.items (n ∷ p ∷ c ∷ [])
  pub backward : (n p c : ℕ) → TableHas g.backward n p c ↔ Contains g.rows.items (c ∷ p ∷ n ∷ [])
  pub typed : length g.types.items ≡ length g.literal.items
  pub types : (n : ℕ) (d : TypesOf) → n < length g.literal.items → IsTrueOf (slice_index_or g.types.items n d) (λ t. HasType (indexed_graph g) n t)
  pub graph : IsGraph (indexed_graph g)
  pub folding : IsFolding (indexed_graph g)
  pub type_named : ForSome g.rdf_type (λ p. p < length g.literal.items)
  pub few : length g.literal.items < 2 ^ 32
