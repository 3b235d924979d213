-- A pool as contracts see it. Lists of numbered cells in one region are this project's own.
use Rattle.std.specs.Prelude.{List, [], ℕ, Some, Contains, length, filter, not, slice_get, slice_index_or, slice_set, ◌++◌, ◌==◌, ◌≡◌, ◌<◌}

-- the cells of each list in order, how many cells there are, and how many stand in no list
pub record Lists : Type 0 where
  pub lists : List (List ℕ)
  pub cells : ℕ
  pub spare : ℕ

-- the cells of a list in order
abbrev pub list_at : List (List ℕ) → ℕ → List ℕ
list_at lists list = slice_index_or lists list []

-- a cell that stands in no list
abbrev pub IsFree : List (List ℕ) → ℕ → Type 0
IsFree lists cell = (list : ℕ) → list < length lists → ¬ (Contains (list_at lists list) cell)

-- a cell stands in one list at most, and there at one place
abbrev pub StandOnce : List (List ℕ) → Type 0
StandOnce lists = (l m i j cell : ℕ) → slice_get (list_at lists l) i ≡ Some cell → slice_get (list_at lists m) j ≡ Some cell → (l ≡ m) × (i ≡ j)

-- each cell that stands in a list is one of the pool's
abbrev pub AreInRange : List (List ℕ) → ℕ → Type 0
AreInRange lists cells = (list cell : ℕ) → Contains (list_at lists list) cell → cell < cells

-- a list without one of its cells, the rest in its order
abbrev pub without : List ℕ → ℕ → List ℕ
without cells cell = filter (λ other. not (other == cell)) cells

-- the lists after the second list was put to the end of the first, which leaves the second empty
abbrev pub joined_lists : List (List ℕ) → ℕ → ℕ → List (List ℕ)
joined_lists lists into from = slice_set (slice_set lists into (list_at lists into ++ list_at lists from)) from []
