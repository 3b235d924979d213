-- Numbers that are gathered, step by step (this project's own).
use Rattle.std.specs.Prelude.{List, ℕ, Bool, Contains, Some, All, slice_get, ◌≡◌, ◌<◌, ◌≤◌, ◌↔◌, ◌⊎◌}
use Rattle.std.specs.List.Sorted.{IsStrictlyIncreasing}
use Rattle.chase_laws.specs.Shape.{Shape}
use Rattle.chase_laws.specs.Graph.{NumberedGraph, IsLiteral}
use Rattle.chase_laws.specs.Candidate.{IsCandidate, IsCandidateUnder, AreAscending}
use Rattle.pair_seed.specs.Folds.{Holds}

-- to the old numbers came some above a that the key pairs with it, and of those with a mark all
pub record Gathered (G : NumberedGraph) (Q : Shape) (a : ℕ) (old new : List ℕ) (Marked : ℕ → Type 0) : Type 0 where
  pub keeps : (b : ℕ) → Contains old b → Contains new b
  pub adds : (b : ℕ) → Marked b → a < b → IsCandidateUnder G Q a b → Contains new b
  pub only : (b : ℕ) → Contains new b → Contains old b ⊎ ((a < b) × IsCandidateUnder G Q a b)

-- b has one of some literals, or one that is alike to it
abbrev pub HoldsOneOf : NumberedGraph → Bool → ℕ → List ℕ → ℕ → Type 0
HoldsOneOf G folded p literals b = (l : ℕ) × Contains literals l × IsLiteral G l × Holds G folded b p l

-- the numbers make candidates with a, and all that the first n keys find are there
pub record Found (G : NumberedGraph) (K : List Shape) (a n : ℕ) (bs : List ℕ) : Type 0 where
  pub adds : (key b : ℕ) (Q : Shape) → key < n → slice_get K key ≡ Some Q → a < b → IsCandidateUnder G Q a b → Contains bs b
  pub only : (b : ℕ) → Contains bs b → IsCandidate G K a b

-- the numbers that make a candidate with a, which is the lower one, ascending
pub record ArePartners (G : NumberedGraph) (K : List Shape) (a : ℕ) (bs : List ℕ) : Type 0 where
  pub ascending : IsStrictlyIncreasing bs
  pub exact : (b : ℕ) → Contains bs b ↔ IsCandidate G K a b

-- all candidates whose lower number is `from` or more and below `to`, in order
pub record AreCandidatesFrom (G : NumberedGraph) (K : List Shape) (from to : ℕ) (ps : List (ℕ × ℕ)) : Type 0 where
  pub ascending : AreAscending ps
  pub only : All (λ x. (from ≤ x.0) × (x.0 < to) × IsCandidate G K x.0 x.1) ps
  pub every : (a b : ℕ) → from ≤ a → a < to → IsCandidate G K a b → Contains ps (a, b)
