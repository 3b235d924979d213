-- How sorted rows become a table (this project's own).
use Rattle.std.specs.Prelude.{List, [], ◌∷◌, ℕ, All, length, slice_index, slice_index_or, ◌≡◌, ◌<◌, ◌≤◌, ◌+◌, ◌⊎◌}
use Rattle.typed_graph.specs.Table.{Table}

-- the blocks of rows lie one behind the other, and in each block the rows ascend by the second and the third number
pub record IsTable (T : Table) : Type 0 where
  pub as_long : length T.lasts ≡ length T.middles
  pub within : (n : ℕ) → n < length T.starts → slice_index T.starts n ≤ length T.middles
  pub rise : (n : ℕ) → n + 1 < length T.starts → slice_index T.starts n ≤ slice_index T.starts (n + 1)
  pub middles : (n i j : ℕ) → n + 1 < length T.starts → slice_index T.starts n ≤ i → i ≤ j → j < slice_index T.starts (n + 1) → slice_index T.middles i ≤ slice_index T.middles j
  pub lasts : (n i j : ℕ) → n + 1 < length T.starts → slice_index T.starts n ≤ i → i < j → j < slice_index T.starts (n + 1) → slice_index T.middles i ≡ slice_index T.middles j → slice_index T.lasts i < slice_index T.lasts j

-- the row at a place
abbrev pub row_at : List (List ℕ) → ℕ → List ℕ
row_at rows k = slice_index_or rows k []

-- a row comes before another: by the first number, then the second, then the third
abbrev pub Before : List ℕ → List ℕ → Type 0
Before r s =
    (slice_index r 0 < slice_index s 0)
    ⊎ ((slice_index r 0 ≡ slice_index s 0) × ((slice_index r 1 < slice_index s 1) ⊎ ((slice_index r 1 ≡ slice_index s 1) × (slice_index r 2 < slice_index s 2))))

-- rows of three numbers, each before those behind it
pub record RowsRise (rows : List (List ℕ)) : Type 0 where
  pub three : All (λ row. length row ≡ 3) rows
  pub rise : (i j : ℕ) → i < j → j < length rows → Before (row_at rows i) (row_at rows j)

-- the rows before place k begin with a number below n, and the others do not
pub record IsStart (rows : List (List ℕ)) (n k : ℕ) : Type 0 where
  pub within : k ≤ length rows
  pub below : (i : ℕ) → i < k → slice_index (row_at rows i) 0 < n
  pub above : (i : ℕ) → k ≤ i → i < length rows → n ≤ slice_index (row_at rows i) 0

-- for each first number the place where its rows begin, and at last the place where all end
pub record AreRowStarts (rows : List (List ℕ)) (names : ℕ) (starts : List ℕ) : Type 0 where
  pub count : length starts ≡ names + 1
  pub each : (n : ℕ) → n < names + 1 → IsStart rows n (slice_index starts n)

-- a row with its numbers in the opposite order
abbrev pub turned : List ℕ → List ℕ
turned row = slice_index row 2 ∷ slice_index row 1 ∷ slice_index row 0 ∷ []
