-- How rows and groups lie in memory: this project's own.
use Rattle.std.specs.Prelude.{List, ℕ, map, take, drop, slice_index, ◌+◌, ◌*◌}
use Rattle.std.specs.List.{range_with_len}
use Rattle.chase_laws.specs.Signature.{SignatureParts}

-- a row of cells that is so wide, by its number
abbrev pub row_at : List ℕ → ℕ → ℕ → List ℕ
row_at cells width row = take width (drop (row * width) cells)

-- the first rows of cells, so many and each so wide
unfoldable pub rows_of : List ℕ → ℕ → ℕ → List (List ℕ)
rows_of cells width count = map (row_at cells width) (range_with_len 0 count)

-- the parts in a row of a key: its values, the name behind them, and the images behind that
abbrev pub parts_in_row : ℕ → ℕ → List ℕ → SignatureParts
parts_in_row key value_count row = record { key = key; name = slice_index row value_count; values = take value_count row; images = drop (value_count + 1) row }
