-- What one link of a doubly linked list changes: this project's own.
use Rattle.std.specs.Prelude.{List, ℕ, Bool, Option, Some, None, length, slice_set, ◌≡◌, ◌≢◌, ◌⊎◌}
use Rattle.list_pool.specs.declared.cell.Cell.{Cell}
use Rattle.list_pool.specs.declared.cell.Ends.{Ends}
use Rattle.list_pool.specs.Linked.{cell_at, ends_at, next_in, prev_in, flags}

-- another cell than the one given, or the head or tail of another list
abbrev pub Misses : ℕ → Option ℕ → ℕ → Option ℕ → Type 0
Misses list node m w = (w ≢ node) ⊎ ((m ≢ list) × (w ≡ None))

-- after `right` was let follow `left` in a list: both links say so, and all other links, the marks and the number of lists are as before
pub record Links (cells : List Cell) (ends : List Ends) (cells' : List Cell) (ends' : List Ends) (list : ℕ) (left right : Option ℕ) : Type 0 where
  pub next : next_in cells' ends' list left ≡ right
  pub prev : prev_in cells' ends' list right ≡ left
  pub next_other : (m : ℕ) (w : Option ℕ) → Misses list left m w → next_in cells' ends' m w ≡ next_in cells ends m w
  pub prev_other : (m : ℕ) (w : Option ℕ) → Misses list right m w → prev_in cells' ends' m w ≡ prev_in cells ends m w
  pub flags : flags cells' ≡ flags cells
  pub lists : length ends' ≡ length ends

-- the cells after a write of what follows a cell
abbrev pub cells_after : List Cell → Option ℕ → Option ℕ → List Cell
cells_after cells None right = cells
cells_after cells (Some cell) right = slice_set cells cell (record (cell_at cells cell) { after = right })

-- the ends after a write of what follows the head of a list
abbrev pub lists_after : List Ends → ℕ → Option ℕ → Option ℕ → List Ends
lists_after ends list None right = slice_set ends list (record (ends_at ends list) { first = right })
lists_after ends list (Some cell) right = ends

-- the cells after a write of what stands before a cell
abbrev pub cells_before : List Cell → Option ℕ → Option ℕ → List Cell
cells_before cells left None = cells
cells_before cells left (Some cell) = slice_set cells cell (record (cell_at cells cell) { before = left })

-- the ends after a write of what stands before the tail of a list
abbrev pub lists_before : List Ends → ℕ → Option ℕ → Option ℕ → List Ends
lists_before ends list left None = slice_set ends list (record (ends_at ends list) { last = left })
lists_before ends list left (Some cell) = ends

-- the cells after one is taken into a list, or let go
abbrev pub cells_marked : List Cell → ℕ → Bool → List Cell
cells_marked cells cell held = slice_set cells cell (record (cell_at cells cell) { held = held })
