-- How many there are at most (this project's own).
use Rattle.std.specs.Prelude.{List, ℕ, Bool, Contains, length, ◌≡◌, ◌<◌, ◌≤◌}
use Rattle.chase_laws.specs.Shape.{Shape}
use Rattle.chase_laws.specs.Graph.{NumberedGraph, HasRow, IsLiteral}
use Rattle.chase_laws.specs.Candidate.{IsCandidate}
use Rattle.pair_seed.specs.Folds.{Holds}
use Rattle.pair_seed.specs.Gathered.{AreCandidatesFrom}

-- at most n numbers have a mark: some list of no more has all of them
abbrev pub AreAtMost : (ℕ → Type 0) → ℕ → Type 0
AreAtMost Marked n = (bs : List ℕ) × (length bs ≤ n) × ((b : ℕ) → Marked b → Contains bs b)

-- under p, some literal of a leads to b: b has it too, or where values are folded one that is alike to it
abbrev pub IsLedTo : NumberedGraph → Bool → ℕ → ℕ → ℕ → Type 0
IsLedTo G folded a p b = (l : ℕ) × IsLiteral G l × HasRow G a p l × Holds G folded b p l

-- at most n candidates have a lower name below `to`
abbrev pub AreAtMostBelow : NumberedGraph → List Shape → ℕ → ℕ → Type 0
AreAtMostBelow G K to n = (ps : List (ℕ × ℕ)) × (length ps ≤ n) × ((a b : ℕ) → a < to → IsCandidate G K a b → Contains ps (a, b))

-- n candidates have a lower name below `to`
abbrev pub AreSoManyBelow : NumberedGraph → List Shape → ℕ → ℕ → Type 0
AreSoManyBelow G K to n = (ps : List (ℕ × ℕ)) × (length ps ≡ n) × AreCandidatesFrom G K 0 to ps
