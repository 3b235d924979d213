-- How many values and images the valuations of a pattern have.
use Rattle.std.specs.Prelude.{List, ℕ, length, ◌≡◌}
use Rattle.chase_laws.specs.Shape.{Shape}
use Rattle.chase_laws.specs.Graph.{NumberedGraph}
use Rattle.chase_laws.specs.Signature.{values_of, images_of}

-- each list of numbers, one for each slot, has so many values and so many images
abbrev pub HasCounts : Shape → ℕ → ℕ → Type 0
HasCounts Q values images = (G : NumberedGraph) (v : List ℕ) → (length (values_of G Q v) ≡ values) × (length (images_of Q v) ≡ images)
