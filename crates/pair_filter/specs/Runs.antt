-- What is kept of pairs that are cut into runs (this project's own).
use Rattle.std.specs.Prelude.{List, ℕ, ◌≡◌, ◌+◌, ◌*◌, ◌<◌, Some, length, slice_get, take, drop}
use Rattle.std.specs.List.{AllZip}
use Rattle.chase_laws.specs.Graph.{NumberedGraph}
use Rattle.chase_laws.specs.Pairing.{ArePairedBy}
use Rattle.chase_laws.specs.Shape.{Shape}
use Rattle.pair_filter.specs.declared.keeping.KeptPairs.{KeptPairs}
use Rattle.pair_filter.specs.Depth.{filter_depth}
use Rattle.pair_filter.specs.Keys.{AreKeysOf}
use Rattle.pair_filter.specs.Selection.{IsSelection}

-- The run at a place: so many pairs from there on, or as many as are left.
abbrev pub run_of : List (ℕ × ℕ) → ℕ → List (ℕ × ℕ)
run_of xs place = take 1024 (drop (place * 1024) xs)

-- Of some pairs those are kept that some key pairs to the filter's depth, in order, and beside each stand its keys.
abbrev pub IsKept : NumberedGraph → List Shape → List (ℕ × ℕ) → KeptPairs → Type 0
IsKept G K xs kept = IsSelection (λ x. ArePairedBy G K filter_depth x.0 x.1) xs kept.pairs.items
    × AllZip (λ x range. AreKeysOf G K range x.0 x.1) kept.pairs.items kept.keys.items

-- What is kept of the run at the place `first`, and of each that is a multiple of `threads` behind it, stands in a list.
abbrev pub AreKeptOf : NumberedGraph → List Shape → List (ℕ × ℕ) → ℕ → ℕ → List KeptPairs → Type 0
AreKeptOf G K xs threads first list = (turn : ℕ) → (first + turn * threads) * 1024 < length xs
    → (kept : KeptPairs) × (slice_get list turn ≡ Some kept) × IsKept G K (run_of xs (first + turn * threads)) kept
