-- Which keys may identify two names (this project's own).
use Rattle.std.specs.Prelude.{List, ℕ, Some, slice_get, ◌≡◌, ◌<◌, ◌-◌}
use Rattle.chase_laws.specs.Shape.{Shape}
use Rattle.chase_laws.specs.Graph.{NumberedGraph}
use Rattle.chase_laws.specs.Valuation.{Designates}
use Rattle.chase_laws.specs.Pairing.{ArePaired}
use Rattle.paired_search.specs.declared.key_range.KeyRange.{KeyRange}
use Rattle.paired_search.specs.KeyRange.{IsIdle, AreIdleOutside}
use Rattle.pair_filter.specs.Depth.{filter_depth}

-- the key designates a type of both, and they are paired to the filter's depth at its first slot
pub record ArePairedUnder (G : NumberedGraph) (Q : Shape) (a b : ℕ) : Type 0 where
  pub left : Designates G Q a
  pub right : Designates G Q b
  pub paired : ArePaired G Q filter_depth 0 a b

-- the key at a place does so
abbrev pub ArePairedAt : NumberedGraph → List Shape → ℕ → ℕ → ℕ → Type 0
ArePairedAt G K key a b = (Q : Shape) × (slice_get K key ≡ Some Q) × ArePairedUnder G Q a b

-- the key does not, and so does not identify the two, whatever is the same
pub record IsRuledOut (G : NumberedGraph) (Q : Shape) (a b : ℕ) : Type 0 where
  pub unpaired : ¬ (ArePairedUnder G Q a b)
  pub idle : IsIdle G Q a b

-- A range for a and b: each key outside of it is idle at them. It begins and ends with a key that pairs them, where it tells
-- these places; 255 tells none.
pub record AreKeysOf (G : NumberedGraph) (K : List Shape) (range : KeyRange) (a b : ℕ) : Type 0 where
  pub idle : AreIdleOutside G K range a b
  pub first : range.first < 255 → ArePairedAt G K range.first a b
  pub last : range.end < 255 → ArePairedAt G K (range.end - 1) a b
