-- The parts in an array.
use Rattle.std.proofs.Common.{List, [], ◌∷◌, ◌++◌, ℕ, length, get_or, take, drop, map, All, ◌≡◌, ◌<◌, ◌+◌, ◌*◌, inl, inr, refl, ap, sym, ◌∙◌, subst, arith, add-one, length-append}
use Rattle.std.proofs.lemmas.List.{length-take-le, length-drop, take-append-drop, get_or-map, get_or_past, length-map, take_at, drop_at, get_or_default, map-append}
use Rattle.std.proofs.lemmas.Bool.{cases_lt}
use Rattle.std.proofs.Common.{drop-cons}
use Rattle.chase_laws.specs.Signature.{SignatureParts}
use Rattle.valuation_groups.specs.Cells.{row_at, rows_of, parts_in_row}
use Rattle.valuation_groups.specs.Rows.{part_at, cells_in, row_numbered, IsOfShape}
use Rattle.valuation_groups.proofs.CellLemmas.{length-rows_of, get_or-rows_of, length-row_at, row_of_any, rows_of-append, rows_of-push}

-- the parts that the cells hold
abbrev pub parts_of_cells : ℕ → ℕ → List ℕ → ℕ → ℕ → List SignatureParts
parts_of_cells key v cells w n = map (parts_in_row key v) (rows_of cells w n)

pub length-parts_of_cells : (key v : ℕ) (cells : List ℕ) (w n : ℕ) → length (parts_of_cells key v cells w n) ≡ n
length-parts_of_cells key v cells w n = length-map (rows_of cells w n) (parts_in_row key v) ∙ length-rows_of cells w n

pub part_at-cells : (key v : ℕ) (cells : List ℕ) (w n k : ℕ) → k < n → part_at (parts_of_cells key v cells w n) k ≡ parts_in_row key v (row_at cells w k)
part_at-cells key v cells w n k h =
    get_or-map (parts_in_row key v) (rows_of cells w n) k [] _ (omega (arith, length-rows_of cells w n)) ∙ ap (parts_in_row key v) (get_or-rows_of cells w n k h)

-- a row is its parts, one behind the other
pub cells_in_row : (key v : ℕ) (row : List ℕ) → v < length row → cells_in (parts_in_row key v row) ≡ row
cells_in_row key v row h =
    let rest : drop v row ≡ get_or row v 0 ∷ drop (v + 1) row = drop-cons row v 0 h ∙ ap (λ n. get_or row v 0 ∷ drop n row) (sym (add-one v)) in
    ap (λ r. take v row ++ r) (sym rest) ∙ take-append-drop v row

pub row_numbered-cells : (key v i : ℕ) (cells : List ℕ) (n k : ℕ) → length cells ≡ n * (v + 1 + i) → row_numbered (parts_of_cells key v cells (v + 1 + i) n) k ≡ row_at cells (v + 1 + i) k
row_numbered-cells key v i cells n k long =
    let w : ℕ = v + 1 + i in
    let parts = parts_of_cells key v cells w n in
    let count = length-parts_of_cells key v cells w n in
    elim (cases_lt k n) [
      | inl lt ↦
          get_or-map cells_in parts k (part_at parts k) [] (omega arith)
          ∙ ap cells_in (get_or_default parts k _ _ (omega arith) ∙ part_at-cells key v cells w n k lt)
          ∙ cells_in_row key v (row_at cells w k) (omega (arith, length-row_at cells w n k (omega arith) lt))
      | inr ge ↦
          get_or_past (map cells_in parts) k [] (omega (arith, length-map parts cells_in))
          ∙ sym (get_or_past (rows_of cells w n) k [] (omega (arith, length-rows_of cells w n)))
          ∙ row_of_any cells w n k long
    ]

-- the parts of a row as it was pushed
pub parts_pushed : (key v : ℕ) (values images : List ℕ) (name : ℕ) → length values ≡ v → parts_in_row key v (values ++ name ∷ images) ≡ (record { key = key; name = name; values = values; images = images })
parts_pushed key v values images name long =
    let row : List ℕ = values ++ name ∷ images in
    let front : take v row ≡ values = take_at values (name ∷ images) v long in
    let back : drop v row ≡ name ∷ images = drop_at values (name ∷ images) v long in
    let inside : v < length row = omega (arith, length-append values (name ∷ images)) in
    let both : get_or row v 0 ∷ drop (v + 1) row ≡ name ∷ images = sym (drop-cons row v 0 inside ∙ ap (λ n. get_or row v 0 ∷ drop n row) (sym (add-one v))) ∙ back in
    let middle : get_or row v 0 ≡ name = ap (λ xs. get_or xs 0 0) both in
    let rest : drop (v + 1) row ≡ images = ap (drop 1) both in
    let P : ℕ → List ℕ → List ℕ → SignatureParts = λ n vs is. record { key = key; name = n; values = vs; images = is } in
    ap (λ n. P n (take v row) (drop (v + 1) row)) middle ∙ ap (λ vs. P name vs (drop (v + 1) row)) front ∙ ap (λ is. P name values is) rest

-- what holds of each part in the cells
pub shape_of_cells : (key v i : ℕ) (cells : List ℕ) (n : ℕ) → length cells ≡ n * (v + 1 + i) → All (IsOfShape key v i) (parts_of_cells key v cells (v + 1 + i) n)
shape_of_cells key v i cells n long = λ k d h.
    let w : ℕ = v + 1 + i in
    let in_n : k < n = omega (arith, length-parts_of_cells key v cells w n) in
    let row : List ℕ = row_at cells w k in
    let wide : length row ≡ v + 1 + i = length-row_at cells w n k (omega arith) in_n in
    let at = get_or_default (parts_of_cells key v cells w n) k d _ h ∙ part_at-cells key v cells w n k in_n in
    subst (IsOfShape key v i) (sym at) (record {
      key = refl;
      values = length-take-le v row (omega arith);
      images = omega (arith, length-drop (v + 1) row);
    })

-- a row more
pub rows_pushed : (key v i : ℕ) (cells values images : List ℕ) (n name : ℕ) → length cells ≡ n * (v + 1 + i) → length values ≡ v → length images ≡ i →
    parts_of_cells key v (cells ++ (values ++ name ∷ images)) (v + 1 + i) (n + 1) ≡ parts_of_cells key v cells (v + 1 + i) n ++ (record { key = key; name = name; values = values; images = images }) ∷ []
rows_pushed key v i cells values images n name long front back =
    let row : List ℕ = values ++ name ∷ images in
    ap (map (parts_in_row key v)) (rows_of-push cells row (v + 1 + i) n long (omega (arith, length-append values (name ∷ images))))
    ∙ map-append (parts_in_row key v) (rows_of cells (v + 1 + i) n) (row ∷ [])
    ∙ ap (λ p. parts_of_cells key v cells (v + 1 + i) n ++ p ∷ []) (parts_pushed key v values images name front)

-- the rows of another array behind
pub rows_appended : (key v i : ℕ) (cells more : List ℕ) (n m : ℕ) → length cells ≡ n * (v + 1 + i) →
    parts_of_cells key v (cells ++ more) (v + 1 + i) (n + m) ≡ parts_of_cells key v cells (v + 1 + i) n ++ parts_of_cells key v more (v + 1 + i) m
rows_appended key v i cells more n m long =
    ap (map (parts_in_row key v)) (rows_of-append cells more (v + 1 + i) n m long)
    ∙ map-append (parts_in_row key v) (rows_of cells (v + 1 + i) n) (rows_of more (v + 1 + i) m)

-- the same where the other array is of the same shape by its own words
pub rows_of_both : (key v i : ℕ) (cells more : List ℕ) (n m key' v' i' : ℕ) → length cells ≡ n * (v + 1 + i) → key' ≡ key → v' ≡ v → i' ≡ i →
    parts_of_cells key v (cells ++ more) (v + 1 + i) (n + m) ≡ parts_of_cells key v cells (v + 1 + i) n ++ parts_of_cells key' v' more (v' + 1 + i') m
rows_of_both key v i cells more n m key' v' i' long same_key same_v same_i =
    rows_appended key v i cells more n m long
    ∙ ap (λ ps. parts_of_cells key v cells (v + 1 + i) n ++ ps) (sym (
    ap (λ k. parts_of_cells k v' more (v' + 1 + i') m) same_key
    ∙ ap (λ u. parts_of_cells key u more (u + 1 + i') m) same_v
    ∙ ap (λ j. parts_of_cells key v more (v + 1 + j) m) same_i))

-- as many cells as all rows take
pub length_of_both : (cells more : List ℕ) (n m v i v' i' : ℕ) → length cells ≡ n * (v + 1 + i) → length more ≡ m * (v' + 1 + i') → v' ≡ v → i' ≡ i →
    length (cells ++ more) ≡ (n + m) * (v + 1 + i)
length_of_both cells more n m v i v' i' front back same_v same_i =
    let there : length more ≡ m * (v + 1 + i) = back ∙ ap (λ u. m * (u + 1 + i')) same_v ∙ ap (λ j. m * (v + 1 + j)) same_i in
    omega (arith, length-append cells more)
