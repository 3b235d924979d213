-- Graphs that are the same for keys.
use Rattle.std.specs.Prelude.{List, ℕ, Some, Contains, slice_get, ◌≡◌, ◌≢◌, ◌⊎◌}
use Rattle.chase_laws.specs.declared.pattern.Slot.TheVariants.{Folded}
use Rattle.chase_laws.specs.Shape.{Shape}
use Rattle.chase_laws.specs.Graph.{NumberedGraph}

-- no slot of the pattern is a folded value variable
abbrev pub IsUnfolded : Shape → Type 0
IsUnfolded Q = (s : ℕ) → slice_get Q.slots s ≢ Some Folded

-- no key has a folded value variable
abbrev pub AreUnfolded : List Shape → Type 0
AreUnfolded K = (key : ℕ) (Q : Shape) → slice_get K key ≡ Some Q → IsUnfolded Q

-- Each row of the one graph is a row of the other, and beside their rows they are the same. What names are alike to counts
-- only where some key has a folded value variable.
pub record HasRowsOf (K : List Shape) (G F : NumberedGraph) : Type 0 where
  pub rows : (row : List ℕ) → Contains G.rows row → Contains F.rows row
  pub literal : G.literal ≡ F.literal
  pub rdf_type : G.rdf_type ≡ F.rdf_type
  pub alike : (G.alike ≡ F.alike) ⊎ AreUnfolded K
