-- The marks of slots in an array, which has a place for each slot that a key may have.
use Rattle.std.specs.Prelude.{List, ℕ, Bool, false, nat_lt, ◌==◌, ◌&&◌, ◌||◌, ◌+◌, slice_index_or, ◌≡◌}
use Rattle.chase_laws.specs.Shape.{marks, touches}
use Rattle.key_file.specs.declared.edge.KeyEdge.{KeyEdge}
use Rattle.key_file.specs.Key.{outline, outline_edge}

-- the marks of the slots that walks of at most so many edges reach, with false behind them
abbrev pub AreMarks : ℕ → List KeyEdge → ℕ → List Bool → Type 0
AreMarks count edges walk array = (s : ℕ) → slice_index_or array s false ≡ slice_index_or (marks (outline count edges) walk) s false

-- the marks with one more slot, where it is one of so many and is reached
abbrev pub IsMarked : ℕ → ℕ → Bool → List Bool → List Bool → Type 0
IsMarked count slot reached before after =
    (s : ℕ) → slice_index_or after s false ≡ (slice_index_or before s false || (nat_lt s count && (slot == s && reached)))

-- the marks with those slots of so many that the edge joins with one that was marked at first
abbrev pub IsPassed : ℕ → KeyEdge → List Bool → List Bool → List Bool → Type 0
IsPassed count edge first before after =
    (s : ℕ) → slice_index_or after s false ≡ (slice_index_or before s false || (nat_lt s count && touches first s (outline_edge edge)))

-- marks of walks become those of walks with one more edge
abbrev pub AreWider : ℕ → List KeyEdge → List Bool → List Bool → Type 0
AreWider count edges before after = (walk : ℕ) → AreMarks count edges walk before → AreMarks count edges (walk + 1) after
