-- When there are too many candidate pairs (this project's own).
use Rattle.std.specs.Prelude.{List, ℕ, All, length, ◌<◌}
use Rattle.chase_laws.specs.Shape.{Shape}
use Rattle.chase_laws.specs.Graph.{NumberedGraph}
use Rattle.chase_laws.specs.Candidate.{IsCandidate, AreAscending}

-- there are more candidates than n: some list of different ones, in order, is longer (this project's own)
pub record HasMoreCandidates (G : NumberedGraph) (K : List Shape) (n : ℕ) : Type 0 where
  pub pairs : List (ℕ × ℕ)
  pub ascending : AreAscending pairs
  pub candidates : All (λ x. IsCandidate G K x.0 x.1) pairs
  pub more : n < length pairs
