-- The names of two ascending lists in one view (this project's own).
use Rattle.std.specs.Prelude.{List, ℕ, IsSome, Contains, All, take, length, slice_index, ◌≡◌, ◌≢◌, ◌<◌, ◌≤◌, ◌+◌, ◌⊎◌, ◌↔◌}
use Rattle.chase_laws.specs.View.{label_in}

-- a view has exactly the names of two lists
abbrev pub NamesBoth : List ℕ → List ℕ → List (ℕ × ℕ) → Type 0
NamesBoth xs ys view = (n : ℕ) → IsSome (label_in view n) ↔ (Contains xs n ⊎ Contains ys n)

-- the least of the names that stand in two ascending lists from a place in each on
pub record IsLeastFrom (xs : List ℕ) (i : ℕ) (ys : List ℕ) (j : ℕ) (n : ℕ) : Type 0 where
  pub first : i < length xs → n ≤ slice_index xs i
  pub second : j < length ys → n ≤ slice_index ys j
  pub stands : ((i < length xs) × (slice_index xs i ≡ n)) ⊎ ((j < length ys) × (slice_index ys j ≡ n))

-- the place behind a name, where it stands at a place of a list, and else that place
abbrev pub IsPast : List ℕ → ℕ → ℕ → ℕ → Type 0
IsPast xs i n i' = ((i < length xs) × (slice_index xs i ≡ n) × (i' ≡ i + 1)) ⊎ ((i' ≡ i) × (i < length xs → slice_index xs i ≢ n))

-- the names of a view are below the one at a place of a list, and fewer than it
pub record IsAhead (xs : List ℕ) (i : ℕ) (view : List (ℕ × ℕ)) : Type 0 where
  pub within : i ≤ length xs
  pub above : i < length xs → All (λ p. p.0 < slice_index xs i) view
  pub fewer : i < length xs → length view ≤ slice_index xs i

-- how far two ascending lists were walked: a view has exactly the names before a place in each
pub record IsWalkedTo (xs : List ℕ) (i : ℕ) (ys : List ℕ) (j : ℕ) (view : List (ℕ × ℕ)) : Type 0 where
  pub names : NamesBoth (take i xs) (take j ys) view
  pub few : length view ≤ i + j
  pub first : IsAhead xs i view
  pub second : IsAhead ys j view
