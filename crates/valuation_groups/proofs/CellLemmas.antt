-- Rows in an array.
use Rattle.std.proofs.Common.{List, [], ◌∷◌, ◌++◌, ℕ, suc, length, get_or, take, drop, All, ◌≡◌, ◌<◌, ◌≤◌, ◌+◌, ◌-◌, ◌*◌, inl, inr, refl, ap, sym, ◌∙◌, arith}
use Rattle.std.specs.List.{concat}
use Rattle.std.proofs.Math.Nat.{mul-le-mul_left}
use Rattle.std.proofs.lemmas.List.{length-drop, length-take-le, length-append, take-append-le, drop-append-le, take_all, drop_at, drop_all, drop-drop, get_or_append_left, get_or-append_right, get_or_past, ext_get_or}
use Rattle.std.proofs.lemmas.List.Elements.{All-head, All-tail}
use Rattle.std.proofs.lemmas.List.FromFn.{length-map-range_with_len, get_or-map-range_with_len}
use Rattle.std.proofs.lemmas.Bool.{cases_lt}
use Rattle.valuation_groups.specs.Cells.{row_at, rows_of}

pub length-rows_of : (cells : List ℕ) (w n : ℕ) → length (rows_of cells w n) ≡ n
unfolding rows_of
length-rows_of cells w n = length-map-range_with_len (row_at cells w) 0 n

pub get_or-rows_of : (cells : List ℕ) (w n k : ℕ) → k < n → get_or (rows_of cells w n) k [] ≡ row_at cells w k
unfolding rows_of
get_or-rows_of cells w n k h = get_or-map-range_with_len (row_at cells w) 0 n k k [] h (omega arith)

-- the end of a row is within the cells
pub row_within : (w n k : ℕ) → k < n → k * w + w ≤ n * w
row_within w n k h = let more : k + 1 ≤ n = omega arith in omega (arith, mul-le-mul_left w more)

pub length-row_at : (cells : List ℕ) (w n k : ℕ) → n * w ≤ length cells → k < n → length (row_at cells w k) ≡ w
length-row_at cells w n k long h = length-take-le w (drop (k * w) cells) (omega (arith, length-drop (k * w) cells, row_within w n k h))

-- behind the last row there is nothing
row_at_past : (cells : List ℕ) (w n k : ℕ) → length cells ≡ n * w → n ≤ k → row_at cells w k ≡ []
row_at_past cells w n k long h = ap (take w) (drop_all (k * w) cells (omega (arith, mul-le-mul_left w h))) ∙ take_all w [] (omega arith)

pub row_of_any : (cells : List ℕ) (w n k : ℕ) → length cells ≡ n * w → get_or (rows_of cells w n) k [] ≡ row_at cells w k
row_of_any cells w n k long = elim (cases_lt k n) [
  | inl lt ↦ get_or-rows_of cells w n k lt
  | inr ge ↦ get_or_past (rows_of cells w n) k [] (omega (arith, length-rows_of cells w n)) ∙ sym (row_at_past cells w n k long ge)
]

-- a row of cells that go on
pub row_at_kept : (cells more : List ℕ) (w n k : ℕ) → n * w ≤ length cells → k < n → row_at (cells ++ more) w k ≡ row_at cells w k
row_at_kept cells more w n k long h =
    let within = row_within w n k h in
    ap (take w) (drop-append-le (k * w) cells more (omega arith)) ∙ take-append-le w (drop (k * w) cells) more (omega (arith, length-drop (k * w) cells))

-- a row of those that were put behind
row_at_behind : (cells more : List ℕ) (w n k m : ℕ) → length cells ≡ n * w → n + m ≡ k → row_at (cells ++ more) w k ≡ row_at more w m
row_at_behind cells more w n k m long e =
    let split : n * w + m * w ≡ k * w = omega (arith, ap (λ j. j * w) e) in
    ap (take w) (ap (λ j. drop j (cells ++ more)) (sym split) ∙ sym (drop-drop (m * w) (n * w) (cells ++ more)) ∙ ap (drop (m * w)) (drop_at cells more (n * w) long))

pub rows_of-append : (cells more : List ℕ) (w n m : ℕ) → length cells ≡ n * w → rows_of (cells ++ more) w (n + m) ≡ rows_of cells w n ++ rows_of more w m
rows_of-append cells more w n m long =
    let front = length-rows_of cells w n in
    let back = length-rows_of more w m in
    let whole = length-rows_of (cells ++ more) w (n + m) in
    ext_get_or [] (rows_of (cells ++ more) w (n + m)) (rows_of cells w n ++ rows_of more w m) (omega (arith, length-append (rows_of cells w n) (rows_of more w m))) (λ k h.
    get_or-rows_of (cells ++ more) w (n + m) k (omega arith)
    ∙ elim (cases_lt k n) [
      | inl lt ↦
          row_at_kept cells more w n k (omega arith) lt
          ∙ sym (get_or-rows_of cells w n k lt)
          ∙ sym (get_or_append_left (rows_of cells w n) (rows_of more w m) [] k (omega arith))
      | inr ge ↦
          row_at_behind cells more w n k (k - n) long (omega arith)
          ∙ sym (get_or-rows_of more w m (k - n) (omega arith))
          ∙ sym (get_or-append_right (rows_of cells w n) (rows_of more w m) n k [] front ge)
    ])

pub rows_of-single : (row : List ℕ) (w : ℕ) → length row ≡ w → rows_of row w 1 ≡ row ∷ []
unfolding rows_of
rows_of-single row w long =
    let none : 0 * w ≡ 0 = omega arith in
    ap (λ r. r ∷ []) (ap (λ n. take w (drop n row)) none ∙ take_all w row (omega arith))

pub rows_of-push : (cells row : List ℕ) (w n : ℕ) → length cells ≡ n * w → length row ≡ w → rows_of (cells ++ row) w (n + 1) ≡ rows_of cells w n ++ row ∷ []
rows_of-push cells row w n long one = rows_of-append cells row w n 1 long ∙ ap (λ rs. rows_of cells w n ++ rs) (rows_of-single row w one)

-- rows that were put one behind the other
pub rows_of-concat : (rows : List (List ℕ)) (w : ℕ) → All (λ row. length row ≡ w) rows → rows_of (concat rows) w (length rows) ≡ rows
unfolding rows_of
rows_of-concat [] w each = refl
rows_of-concat (row ∷ rows) w each =
    let one : length row ≡ w = All-head (λ (r : List ℕ). length r ≡ w) row rows each in
    let count : 1 + length rows ≡ suc (length rows) = omega arith in
    ap (rows_of (row ++ concat rows) w) (sym count)
    ∙ rows_of-append row (concat rows) w 1 (length rows) (omega arith)
    ∙ ap (λ rs. rs ++ rows_of (concat rows) w (length rows)) (rows_of-single row w one)
    ∙ ap (λ rs. row ∷ rs) (rows_of-concat rows w (All-tail (λ (r : List ℕ). length r ≡ w) row rows each))

pub length-concat : (rows : List (List ℕ)) (w : ℕ) → All (λ row. length row ≡ w) rows → length (concat rows) ≡ length rows * w
length-concat [] w each = omega arith
length-concat (row ∷ rows) w each =
    let one : length row ≡ w = All-head (λ (r : List ℕ). length r ≡ w) row rows each in
    let rest : length (concat rows) ≡ length rows * w = length-concat rows w (All-tail (λ (r : List ℕ). length r ≡ w) row rows each) in
    omega (arith, length-append row (concat rows))
