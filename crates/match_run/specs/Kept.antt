-- The pairs that a chase searches (this project's own).
use Rattle.std.specs.Prelude.{List, ℕ, All, Contains, length, ◌<◌, ◌^◌, ◌↔◌}
use Rattle.chase_laws.specs.Shape.{Shape}
use Rattle.chase_laws.specs.Graph.{NumberedGraph}
use Rattle.chase_laws.specs.Candidate.{IsCandidate, IsCandidateCount, AreAscending}
use Rattle.chase_laws.specs.Chase.{IsAble}
use Rattle.chase_laws.specs.Pairing.{ArePairedBy}
use Rattle.paired_search.specs.declared.key_range.KeyRange.{KeyRange}
use Rattle.pair_filter.specs.Depth.{filter_depth}
use Rattle.chase_core.specs.Setup.{AreRangesFor}

-- Of so many candidate pairs exactly those that some key pairs to the depth of the filter, ascending, with ranges of keys: every pair that a
-- step can identify is among them, and no key outside of its range can identify it.
pub record AreKept (G : NumberedGraph) (K : List Shape) (pairs : List (ℕ × ℕ)) (ranges : List KeyRange) (seeded : ℕ) : Type 0 where
  pub exact : (a b : ℕ) → Contains pairs (a, b) ↔ (IsCandidate G K a b × ArePairedBy G K filter_depth a b)
  pub few : length pairs < 2 ^ 32
  pub ascend : AreAscending pairs
  pub named : All (λ p. (p.0 < p.1) × (p.1 < length G.literal)) pairs
  pub able : (a b : ℕ) → IsAble G K a b → Contains pairs (a, b)
  pub ranges_fit : AreRangesFor G K pairs ranges
  pub count : IsCandidateCount G K seeded
