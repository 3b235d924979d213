-- Sorted rows of three numbers, kept as columns (this project's own).
use Rattle.std.specs.Prelude.{List, ℕ, length, slice_index, ◌≡◌, ◌<◌, ◌≤◌, ◌+◌}

-- The rows that begin with n stand at the places from starts[n] up to starts[n + 1]. At each place stand a row's second
-- and third number.
pub record Table : Type 0 where
  pub starts : List ℕ
  pub middles : List ℕ
  pub lasts : List ℕ

-- the table has the row (n, p, c)
pub record TableHas (T : Table) (n p c : ℕ) : Type 0 where
  pub place : ℕ
  pub named : n + 1 < length T.starts
  pub from : slice_index T.starts n ≤ place
  pub to : place < slice_index T.starts (n + 1)
  pub middle : slice_index T.middles place ≡ p
  pub last : slice_index T.lasts place ≡ c
