-- What the valuations of a key are looked for with, and the rows that come of it (this project's own).
use Rattle.std.specs.Prelude.{List, ℕ, All, Contains, length, slice_index, ◌≡◌, ◌<◌, ◌≤◌}
use Rattle.chase_laws.specs.Valuation.{IsValuation}
use Rattle.chase_laws.specs.Signature.{SignatureParts, parts_of}
use Rattle.valuation_groups.specs.Rows.{KeyRows, part_at}
use Rattle.key_valuations.specs.declared.search.KeySearch.{KeySearch}
use Rattle.key_valuations.specs.Counts.{HasCounts}
use Rattle.key_valuations.specs.Leading.{IsLeading, IsLed, leading_parts}

-- the leading slots are those of the pattern, at most 16
pub record IsSearch (search : KeySearch) : Type 0 where
  pub leading : All (IsLeading search.pattern.now) search.leading.now
  pub few : length search.leading.now ≤ 16

-- rows of leading values of the key
pub record AreLeads (search : KeySearch) (rows : KeyRows) : Type 0 where
  pub key : rows.key ≡ search.key
  pub value_count : rows.value_count ≡ length search.leading.now
  pub image_count : rows.image_count ≡ 0

-- such rows, with those of each valuation at one of these names whose values another name has
pub record AreLeadsOf (search : KeySearch) (names : List ℕ) (rows : KeyRows) : Type 0 where
  pub leads : AreLeads search rows
  pub every : (v : List ℕ) → IsLed search.graph.now search.pattern.now v → Contains names (slice_index v 0) → Contains rows.parts (leading_parts search.graph.now search.leading.now search.key v)

-- a valuation whose leading values and name are those of a row from one on, up to another
pub record IsAtRow (search : KeySearch) (leads : KeyRows) (from to : ℕ) (v : List ℕ) : Type 0 where
  pub valuation : IsValuation search.graph.now search.pattern.now v
  pub row : ℕ
  pub after : from ≤ row
  pub before : row < to
  pub is : part_at leads.parts row ≡ leading_parts search.graph.now search.leading.now search.key v

-- rows with parts of valuations of the key, and those of each at such a row
pub record AreRowsAt (search : KeySearch) (leads : KeyRows) (from to : ℕ) (rows : KeyRows) : Type 0 where
  pub key : rows.key ≡ search.key
  pub counts : HasCounts search.pattern.now rows.value_count rows.image_count
  pub only : (p : SignatureParts) → Contains rows.parts p → (v : List ℕ) × IsValuation search.graph.now search.pattern.now v × (p ≡ parts_of search.graph.now search.key search.pattern.now v)
  pub every : (v : List ℕ) → IsAtRow search leads from to v → Contains rows.parts (parts_of search.graph.now search.key search.pattern.now v)
