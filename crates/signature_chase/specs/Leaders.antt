-- One row of a group for all rows whose images have the same labels (this project's own).
use Rattle.std.specs.Prelude.{List, ℕ, Contains, length, drop, slice_get, slice_index, slice_index_or, take, ◌≡◌, ◌<◌, ◌≤◌, ◌+◌, ◌↔◌, ◌⊎◌}
use Rattle.valuation_groups.specs.Groups.{GroupShape, row_in}
use Rattle.signature_chase.specs.Settled.{image_labels}

-- a row with what it is compared by: the leader that it had so far, the label of one image, and its number
abbrev pub Keyed : Type 0
Keyed = ℕ × ℕ × ℕ

-- what stands at a place of keyed rows
abbrev pub keyed_at : List Keyed → ℕ → Keyed
keyed_at keyed k = slice_index_or keyed k (0, 0, 0)

-- two keyed rows are compared by the same
abbrev pub SameKey : Keyed → Keyed → Type 0
SameKey x y = (x.0 ≡ y.0) × (x.1 ≡ y.1)

-- what the first is compared by is not above that of the second
abbrev pub IsNotAbove : Keyed → Keyed → Type 0
IsNotAbove x y = (x.0 < y.0) ⊎ ((x.0 ≡ y.0) × (x.1 ≤ y.1))

-- the rows of a group with their leaders and the label of the image at a place
pub record AreKeyed (labels : List ℕ) (group : GroupShape) (place : ℕ) (leaders : List ℕ) (keyed : List Keyed) : Type 0 where
  pub one_each : length keyed ≡ length group.rows
  pub each : (i : ℕ) → i < length group.rows →
      keyed_at keyed i ≡ (slice_index leaders i, slice_index labels (slice_index (drop 1 (row_in group i)) place), i)

-- of the first keyed rows each has a leader that is compared by the same, and those that are compared by the same have one
pub record AreLed (keyed : List Keyed) (leaders : List ℕ) (count : ℕ) : Type 0 where
  pub led : (k : ℕ) → k < count → (j : ℕ) × (j < length keyed) × (slice_index leaders (keyed_at keyed k).2 ≡ (keyed_at keyed j).2) × SameKey (keyed_at keyed j) (keyed_at keyed k)
  pub equal : (k l : ℕ) → k < count → l < count → SameKey (keyed_at keyed k) (keyed_at keyed l) →
      slice_index leaders (keyed_at keyed k).2 ≡ slice_index leaders (keyed_at keyed l).2

-- Each row has a leader, which is its own: a row whose images have the same labels, in so many places from the first. Rows
-- with the same labels there have one leader.
pub record AreLeaders (labels : List ℕ) (group : GroupShape) (places : ℕ) (leaders : List ℕ) : Type 0 where
  pub one_each : length leaders ≡ length group.rows
  pub rows : (i : ℕ) → i < length group.rows → slice_index leaders i < length group.rows
  pub own : (i : ℕ) → i < length group.rows → slice_index leaders (slice_index leaders i) ≡ slice_index leaders i
  pub equal : (i j : ℕ) → i < length group.rows → j < length group.rows →
      (slice_index leaders i ≡ slice_index leaders j) ↔ (take places (image_labels labels (row_in group i)) ≡ take places (image_labels labels (row_in group j)))
