-- How many classes of two or more a list of labels makes, and how many members they have: this project's own.
use Rattle.std.specs.Prelude.{List, ℕ, Contains, AllPairs, length, slice_index, ◌≡◌, ◌≢◌, ◌<◌, ◌↔◌}

-- two places have one label
abbrev pub HaveOneLabel : List ℕ → ℕ → ℕ → Type 0
HaveOneLabel labels i j = (i < length labels) × (j < length labels) × (slice_index labels i ≡ slice_index labels j)

-- a member of a class of two or more: a place that shares its label with another
abbrev pub SharesItsLabel : List ℕ → ℕ → Type 0
SharesItsLabel labels i = (j : ℕ) × (j ≢ i) × HaveOneLabel labels i j

-- the first member of a class of two or more: a place that shares its label with a later one, and with no earlier one
pub record LeadsItsClass (labels : List ℕ) (i : ℕ) : Type 0 where
  pub later : (j : ℕ) × (i < j) × HaveOneLabel labels i j
  pub no_earlier : (j : ℕ) → j < i → ¬ (HaveOneLabel labels i j)

-- n is the number of places of which something holds: some list of them in ascending order has all of them, and n elements
pub record IsPlaceCount (Holds : ℕ → Type 0) (n : ℕ) : Type 0 where
  pub listed : List ℕ
  pub ascending : AllPairs (λ i j. i < j) listed
  pub exact : (i : ℕ) → Contains listed i ↔ Holds i
  pub count : length listed ≡ n

-- n is the number of members of classes of two or more
abbrev pub IsMemberCount : List ℕ → ℕ → Type 0
IsMemberCount labels n = IsPlaceCount (SharesItsLabel labels) n

-- n is the number of classes of two or more, each of which has one first member
abbrev pub IsClassCount : List ℕ → ℕ → Type 0
IsClassCount labels n = IsPlaceCount (LeadsItsClass labels) n
