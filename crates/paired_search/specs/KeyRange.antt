-- Which keys are searched, and which can't identify two names (this project's own).
use Rattle.std.specs.Prelude.{List, ℕ, Bool, Some, slice_get, ◌≡◌, ◌<◌, ◌≤◌, ◌⊎◌}
use Rattle.chase_laws.specs.Shape.{Shape}
use Rattle.chase_laws.specs.Graph.{NumberedGraph}
use Rattle.chase_laws.specs.Valuation.{IsMatch}
use Rattle.paired_search.specs.declared.key_range.KeyRange.{KeyRange}

-- the key at a place is one of a range, where an end of 255 is no end
abbrev pub IsWithin : KeyRange → ℕ → Type 0
IsWithin range key = (range.first ≤ key) × ((range.end ≡ 255) ⊎ (key < range.end))

-- an idle key: whatever is the same, it does not identify a and b
abbrev pub IsIdle : NumberedGraph → Shape → ℕ → ℕ → Type 0
IsIdle G Q a b = (same : ℕ → ℕ → Bool) (v w : List ℕ) → ¬ (IsMatch G Q same a b v w)

-- each key outside of a range is idle at a and b
abbrev pub AreIdleOutside : NumberedGraph → List Shape → KeyRange → ℕ → ℕ → Type 0
AreIdleOutside G K range a b = (key : ℕ) (Q : Shape) → slice_get K key ≡ Some Q → ¬ (IsWithin range key) → IsIdle G Q a b
