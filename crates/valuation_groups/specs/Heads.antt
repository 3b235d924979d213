-- How groups lie in memory: this project's own.
use Rattle.std.specs.Prelude.{List, ℕ, take, drop, ◌+◌, ◌*◌, ◌≤◌}
use Rattle.valuation_groups.specs.Groups.{GroupShape}
use Rattle.valuation_groups.specs.Cells.{rows_of}
use Rattle.valuation_groups.specs.declared.groups.Head.{Head}

-- the values of a group, which begin at its first value
abbrev pub values_at : List ℕ → Head → List ℕ
values_at values head = take head.value_count (drop head.first_value values)

-- the group that a head tells of
abbrev pub shape_of : List ℕ → List ℕ → Head → GroupShape
shape_of values cells head = record { key = head.key; values = values_at values head; rows = rows_of (drop head.first_cell cells) (head.image_count + 1) head.row_count }

-- what a head tells of lies within both arrays
pub record IsWithin (value_end cell_end : ℕ) (head : Head) : Type 0 where
  pub values : head.first_value + head.value_count ≤ value_end
  pub cells : head.first_cell + head.row_count * (head.image_count + 1) ≤ cell_end
