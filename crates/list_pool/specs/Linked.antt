-- How cells and ends hold lists: doubly linked lists, this project's own.
use Rattle.std.specs.Prelude.{List, [], ◌∷◌, ℕ, suc, zero, Bool, false, not, Option, Some, None, cond, length, map, slice_index_or, count_by, sum_by, ◌≡◌, ◌+◌, ◌<◌, ◌^◌}
use Rattle.list_pool.specs.Counts.{count_in}
use Rattle.list_pool.specs.Pool.{list_at}
use Rattle.list_pool.specs.declared.cell.Cell.{Cell}
use Rattle.list_pool.specs.declared.cell.Ends.{Ends}

-- what is kept for a cell
abbrev pub cell_at : List Cell → ℕ → Cell
cell_at cells cell = slice_index_or cells cell (record { held = false; before = None; after = None })

-- what is kept for a list
abbrev pub ends_at : List Ends → ℕ → Ends
ends_at lists list = slice_index_or lists list (record { first = None; last = None })

-- what follows a cell, or the head of a list
abbrev pub next_in : List Cell → List Ends → ℕ → Option ℕ → Option ℕ
next_in cells lists list None = (ends_at lists list).first
next_in cells lists list (Some cell) = (cell_at cells cell).after

-- what stands before a cell, or before the tail of a list
abbrev pub prev_in : List Cell → List Ends → ℕ → Option ℕ → Option ℕ
prev_in cells lists list None = (ends_at lists list).last
prev_in cells lists list (Some cell) = (cell_at cells cell).before

-- which cells are held
abbrev pub flags : List Cell → List Bool
flags cells = map (λ cell. cell.held) cells

-- the cells from one on, by what follows each, at most as many as the number
unfoldable pub walk : List Cell → ℕ → Option ℕ → List ℕ
walk cells zero at = []
walk cells (suc n) None = []
walk cells (suc n) (Some cell) = cell ∷ walk cells n (cell_at cells cell).after

-- the list of cells of each list, as its links give it
unfoldable pub lists_of : List Cell → List Ends → List (List ℕ)
lists_of cells lists = map (λ ends. walk cells (length cells) ends.first) lists

-- the last of some cells, and without any what stands before them
unfoldable pub last : Option ℕ → List ℕ → Option ℕ
last p [] = p
last p (x ∷ xs) = last (Some x) xs

-- each of these cells follows the one before it, the first of them what stands at `p`
unfoldable pub Path : (Option ℕ → Option ℕ) → (Option ℕ → Option ℕ) → Option ℕ → List ℕ → Type 0
Path next prev p [] = Unit {0}
Path next prev p (x ∷ xs) = (next p ≡ Some x) × (prev (Some x) ≡ p) × Path next prev (Some x) xs

-- the links of a list, forwards and back, go through these cells from its head to its tail
pub record IsDoublyLinked (next prev : Option ℕ → Option ℕ) (xs : List ℕ) : Type 0 where
  pub path : Path next prev None xs
  pub end : next (last None xs) ≡ None
  pub back : prev None ≡ last None xs

-- what each pool keeps: its links give these lists, a cell is marked held exactly where it stands in one, and stands in one
-- list at most and there once, and the cells in no list are counted
pub record IsPool (cells : List Cell) (ends : List Ends) (spare : ℕ) (lists : List (List ℕ)) : Type 0 where
  pub count : length lists ≡ length ends
  pub linked : (l : ℕ) → l < length ends → IsDoublyLinked (next_in cells ends l) (prev_in cells ends l) (list_at lists l)
  pub held : (cell : ℕ) → count_in lists cell ≡ cond (slice_index_or (flags cells) cell false) 1 0
  pub free : spare ≡ count_by not (flags cells)
  pub all : spare + sum_by length lists ≡ length cells
  pub few : length cells < 2 ^ 32
