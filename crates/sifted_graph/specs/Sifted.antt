-- A part of a graph that is enough for keys: this project's own.
use Rattle.std.specs.Prelude.{List, ℕ, Some, All, slice_get, slice_index, ◌≡◌, ◌≢◌}
use Rattle.chase_laws.specs.declared.pattern.Slot.TheVariants.{Entity, Any}
use Rattle.chase_laws.specs.Shape.{Shape}
use Rattle.chase_laws.specs.Graph.{NumberedGraph, HasRow, HasType}
use Rattle.chase_laws.specs.SameRows.{HasRowsOf}
use Rattle.chase_laws.specs.Valuation.{IsValuation}
use Rattle.chase_laws.specs.Signature.{values_of}

-- the graph has every row of the valuation: the image of each edge, and the type of each entity variable and each wildcard
pub record HasRowsAt (F : NumberedGraph) (Q : Shape) (v : List ℕ) : Type 0 where
  pub edges : All (λ e. HasRow F (slice_index v e.from) e.pred (slice_index v e.to)) Q.edges
  pub entities : (s t : ℕ) → slice_get Q.slots s ≡ Some (Entity t) → HasType F (slice_index v s) t
  pub wildcards : (s t : ℕ) → slice_get Q.slots s ≡ Some (Any t) → HasType F (slice_index v s) t

-- F is a part of G, and of each valuation whose values some valuation of the same key at another name has, too, it has every
-- row: literals at value variables are the same, and those at folded ones are alike.
pub record IsSifted (K : List Shape) (G F : NumberedGraph) : Type 0 where
  pub part : HasRowsOf K F G
  pub kept : (key : ℕ) (Q : Shape) (v w : List ℕ) → slice_get K key ≡ Some Q → IsValuation G Q v → IsValuation G Q w →
      slice_index v 0 ≢ slice_index w 0 → values_of G Q v ≡ values_of G Q w → HasRowsAt F Q v
