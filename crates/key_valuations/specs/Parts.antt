-- What a valuation is asked to have.
use Rattle.std.specs.Prelude.{List, ℕ, Contains, slice_index, ◌≡◌, ◌≢◌}
use Rattle.chase_laws.specs.Shape.{Shape}
use Rattle.chase_laws.specs.Graph.{NumberedGraph}
use Rattle.chase_laws.specs.Valuation.{IsValuation}
use Rattle.chase_laws.specs.Signature.{values_of, images_of, SignatureParts}

-- a valuation of the pattern with this name at slot 0, these values and these images
pub record HasParts (G : NumberedGraph) (Q : Shape) (name' : ℕ) (values' images' v : List ℕ) : Type 0 where
  pub valuation : IsValuation G Q v
  pub name : slice_index v 0 ≡ name'
  pub values : values_of G Q v ≡ values'
  pub images : images_of Q v ≡ images'

-- of the listed parts some of the same key have these values, too, and another name
abbrev pub IsSharedIn : List SignatureParts → SignatureParts → Type 0
IsSharedIn listed p = (q : SignatureParts) × Contains listed q × (q.key ≡ p.key) × (q.values ≡ p.values) × (q.name ≢ p.name)
