-- What is kept of each name's types (this project's own).
use Rattle.std.specs.Prelude.{List, Option, ℕ, IsSomeAnd, length, slice_index_or, ⊤, ◌≡◌, ◌<◌, ◌↔◌}
use Rattle.typed_graph.specs.declared.types.TypesOf.{TypesOf}
use Rattle.typed_graph.specs.declared.types.TypesOf.TheVariants.{Untyped, One, Several}
use Rattle.typed_graph.specs.Table.{Table, TableHas}

-- what is kept is true of the numbers that are types: there is none, or this one alone; of several it says nothing
abbrev pub IsTrueOf : TypesOf → (ℕ → Type 0) → Type 0
IsTrueOf Untyped P = (t : ℕ) → ¬ (P t)
IsTrueOf (One t) P = (u : ℕ) → P u ↔ (t ≡ u)
IsTrueOf Several P = ⊤

-- for each number below names what is kept of its types is true, by the rows of a table
pub record AreTypes (T : Table) (rdf_type : Option ℕ) (names : ℕ) (kept : List TypesOf) : Type 0 where
  pub count : length kept ≡ names
  pub each : (n : ℕ) (d : TypesOf) → n < names → IsTrueOf (slice_index_or kept n d) (λ t. IsSomeAnd rdf_type (λ p. TableHas T n p t))
