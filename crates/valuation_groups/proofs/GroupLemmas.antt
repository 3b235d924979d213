-- Groups in their arrays, and lists with one group more.
use Rattle.std.proofs.Common.{List, [], ◌∷◌, ◌++◌, ℕ, length, get_or, take, drop, map, All, Contains, ◌≡◌, ◌≢◌, ◌<◌, ◌≤◌, ◌+◌, ◌-◌, ◌*◌, ◌⊎◌, inl, inr, refl, ap, sym, ◌∙◌, subst, arith}
use Rattle.std.specs.Prelude.{slice_range}
use Rattle.std.specs.List.{concat}
use Rattle.std.proofs.lemmas.List.{length-drop, length-take-le, length-append, length-map, length_push, take-append-le, take-append-drop, take-take, drop-take, take_all, take_more, drop-append-le, drop_at, map_push, get_or_append_left, get_or_push, get_or-drop, get_or-map, append_assoc, append-nil, ext_get_or, get_or-take}
use Rattle.std.proofs.lemmas.List.Concat.{flat_map-append}
use Rattle.std.proofs.lemmas.List.Elements.{All-head, All-tail, All-map, All-take, All-drop, All-push, Contains-push_cases, Contains-get_or, All-contains}
use Rattle.std.proofs.lemmas.Bool.{cases_lt}
use Rattle.chase_laws.specs.Signature.{SignatureParts}
use Rattle.valuation_groups.specs.Cells.{rows_of}
use Rattle.valuation_groups.specs.Rows.{KeyRows, part_at, IsOfShape, AreOfShape}
use Rattle.valuation_groups.specs.Groups.{GroupShape, group_at, parts_in, parts_of_group, listed_of, AreApart}
use Rattle.valuation_groups.specs.Heads.{values_at, shape_of, IsWithin}
use Rattle.valuation_groups.specs.Filling.{rows_between, group_between}
use Rattle.valuation_groups.specs.declared.groups.Head.{Head}
use Rattle.valuation_groups.proofs.CellLemmas.{length-rows_of, get_or-rows_of, row_at_kept, rows_of-concat, length-concat}
use Rattle.valuation_groups.proofs.OrderLemmas.{IsBorder}

-- rows of cells that go on
pub rows_of_kept : (cells more : List ℕ) (w n : ℕ) → n * w ≤ length cells → rows_of (cells ++ more) w n ≡ rows_of cells w n
rows_of_kept cells more w n long = ext_get_or [] (rows_of (cells ++ more) w n) (rows_of cells w n) (length-rows_of (cells ++ more) w n ∙ sym (length-rows_of cells w n)) (λ k h.
    let in_n : k < n = omega (arith, length-rows_of (cells ++ more) w n) in
    get_or-rows_of (cells ++ more) w n k in_n ∙ row_at_kept cells more w n k long in_n ∙ sym (get_or-rows_of cells w n k in_n))

-- the rows of a part of the cells that has them all
pub rows_of_front : (cells : List ℕ) (w n k : ℕ) → n * w ≡ k → k ≤ length cells → rows_of (take k cells) w n ≡ rows_of cells w n
rows_of_front cells w n k is long =
    sym (rows_of_kept (take k cells) (drop k cells) w n (omega (arith, length-take-le k cells long))) ∙ ap (λ xs. rows_of xs w n) (take-append-drop k cells)

-- a group whose arrays go on
pub shape_kept : (values cells more_values more_cells : List ℕ) (head : Head) → IsWithin (length values) (length cells) head →
    shape_of (values ++ more_values) (cells ++ more_cells) head ≡ shape_of values cells head
shape_kept values cells more_values more_cells head h =
    let in_values = h.values in
    let in_cells = h.cells in
    let v : values_at (values ++ more_values) head ≡ values_at values head =
    ap (take head.value_count) (drop-append-le head.first_value values more_values (omega arith))
    ∙ take-append-le head.value_count (drop head.first_value values) more_values (omega (arith, length-drop head.first_value values)) in
    let r : rows_of (drop head.first_cell (cells ++ more_cells)) (head.image_count + 1) head.row_count ≡ rows_of (drop head.first_cell cells) (head.image_count + 1) head.row_count =
    ap (λ xs. rows_of xs (head.image_count + 1) head.row_count) (drop-append-le head.first_cell cells more_cells (omega arith))
    ∙ rows_of_kept (drop head.first_cell cells) more_cells (head.image_count + 1) head.row_count (omega (arith, length-drop head.first_cell cells)) in
    let make : List ℕ → List (List ℕ) → GroupShape = λ vs rs. record { key = head.key; values = vs; rows = rs } in
    ap (λ vs. make vs (rows_of (drop head.first_cell (cells ++ more_cells)) (head.image_count + 1) head.row_count)) v ∙ ap (make (values_at values head)) r

pub shapes_kept : (values cells more_values more_cells : List ℕ) (heads : List Head) → All (IsWithin (length values) (length cells)) heads →
    map (shape_of (values ++ more_values) (cells ++ more_cells)) heads ≡ map (shape_of values cells) heads
shapes_kept values cells more_values more_cells [] h = refl
shapes_kept values cells more_values more_cells (head ∷ heads) h =
    ap (λ g. g ∷ map (shape_of (values ++ more_values) (cells ++ more_cells)) heads) (shape_kept values cells more_values more_cells head (All-head (IsWithin (length values) (length cells)) head heads h))
    ∙ ap (λ gs. shape_of values cells head ∷ gs) (shapes_kept values cells more_values more_cells heads (All-tail (IsWithin (length values) (length cells)) head heads h))

-- heads stay within arrays that grow
pub within_more : (values cells values' cells' : ℕ) (heads : List Head) → values ≤ values' → cells ≤ cells' → All (IsWithin values cells) heads → All (IsWithin values' cells') heads
within_more values cells values' cells' heads v w h = λ k d j. let at = h k d j in record { values = omega (arith, at.values); cells = omega (arith, at.cells) }

-- the group that was put behind both arrays
pub shape_put : (values cells new_values : List ℕ) (rows : List (List ℕ)) (head : Head) → head.first_value ≡ length values → head.first_cell ≡ length cells →
    length new_values ≡ head.value_count → length rows ≡ head.row_count → All (λ row. length row ≡ head.image_count + 1) rows →
    shape_of (values ++ new_values) (cells ++ concat rows) head ≡ (record { key = head.key; values = new_values; rows = rows })
shape_put values cells new_values rows head fv fc count many wide =
    let v : values_at (values ++ new_values) head ≡ new_values =
    ap (take head.value_count) (drop_at values new_values head.first_value (sym fv)) ∙ take_all head.value_count new_values (omega arith) in
    let r : rows_of (drop head.first_cell (cells ++ concat rows)) (head.image_count + 1) head.row_count ≡ rows =
    ap (λ xs. rows_of xs (head.image_count + 1) head.row_count) (drop_at cells (concat rows) head.first_cell (sym fc))
    ∙ ap (rows_of (concat rows) (head.image_count + 1)) (sym many)
    ∙ rows_of-concat rows (head.image_count + 1) wide in
    let make : List ℕ → List (List ℕ) → GroupShape = λ vs rs. record { key = head.key; values = vs; rows = rs } in
    ap (λ vs. make vs (rows_of (drop head.first_cell (cells ++ concat rows)) (head.image_count + 1) head.row_count)) v ∙ ap (make new_values) r

-- how many rows stand between two places, and how long each is
pub length_between : (parts : List SignatureParts) (from end : ℕ) → from ≤ end → end ≤ length parts → length (rows_between parts from end) ≡ end - from
length_between parts from end h k =
    length-map (slice_range parts from end) (λ p. p.name ∷ p.images) ∙ length-take-le (end - from) (drop from parts) (omega (arith, length-drop from parts))

pub wide_between : (rows : KeyRows) (from end : ℕ) → AreOfShape rows → All (λ row. length row ≡ rows.image_count + 1) (rows_between rows.parts from end)
wide_between rows from end shape =
    All-map (λ (row : List ℕ). length row ≡ rows.image_count + 1) (λ (p : SignatureParts). p.name ∷ p.images) (slice_range rows.parts from end) (λ k d h.
    let at : IsOfShape rows.key rows.value_count rows.image_count (get_or (slice_range rows.parts from end) k d) =
    All-take (IsOfShape rows.key rows.value_count rows.image_count) (end - from) (drop from rows.parts) (All-drop (IsOfShape rows.key rows.value_count rows.image_count) from rows.parts shape) k d h in
    let images = at.images in
    omega arith)

-- a place in a range
range_at : (parts : List SignatureParts) (from end k : ℕ) (d : SignatureParts) → k < end - from → get_or (slice_range parts from end) k d ≡ get_or parts (from + k) d
range_at parts from end k d h = get_or-take (end - from) (drop from parts) k d h ∙ get_or-drop from parts k d

-- the parts that the group of a run stands for are those of the run
pub parts_of_run : (rows : KeyRows) (from end : ℕ) → AreOfShape rows → from ≤ end → end ≤ length rows.parts →
    ((k : ℕ) → from ≤ k → k < end → (part_at rows.parts k).values ≡ (part_at rows.parts from).values) →
    parts_of_group (group_between rows from end) ≡ slice_range rows.parts from end
parts_of_run rows from end shape h k same =
    let run = slice_range rows.parts from end in
    let none : SignatureParts = record { key = 0; name = 0; values = []; images = [] } in
    let group = group_between rows from end in
    let long : length run ≡ end - from = length-take-le (end - from) (drop from rows.parts) (omega (arith, length-drop from rows.parts)) in
    let short : length (parts_of_group group) ≡ length run = length-map group.rows (parts_in group) ∙ length-map run (λ p. p.name ∷ p.images) in
    ext_get_or none (parts_of_group group) run short (λ i j.
    let in_run : i < length run = omega arith in
    let there : get_or run i none ≡ part_at rows.parts (from + i) = range_at rows.parts from end i none (omega arith) in
    let p : SignatureParts = get_or run i none in
    let is_key : p.key ≡ rows.key = (subst (IsOfShape rows.key rows.value_count rows.image_count) (sym there) (shape (from + i) none (omega arith))).key in
    let is_values : p.values ≡ (part_at rows.parts from).values = ap (λ (q : SignatureParts). q.values) there ∙ same (from + i) (omega arith) (omega arith) in
    get_or-map (parts_in group) group.rows i [] none (omega (arith, length-map run (λ (p : SignatureParts). p.name ∷ p.images)))
    ∙ ap (parts_in group) (get_or-map (λ (p : SignatureParts). p.name ∷ p.images) run i none [] in_run)
    ∙ ap (λ vs. let q : SignatureParts = record { key = rows.key; name = p.name; values = vs; images = p.images } in q) (sym is_values)
    ∙ ap (λ n. let q : SignatureParts = record { key = n; name = p.name; values = p.values; images = p.images } in q) (sym is_key))

-- a front and the run behind it
pub front_and_run : (parts : List SignatureParts) (from end : ℕ) → from ≤ end → take from parts ++ slice_range parts from end ≡ take end parts
front_and_run parts from end h =
    let sum : from + (end - from) ≡ end = omega arith in
    ap (λ n. take from parts ++ n) (sym (drop-take from (end - from) parts))
    ∙ ap (λ n. take from parts ++ drop from (take n parts)) sum
    ∙ ap (λ xs. xs ++ drop from (take end parts)) (sym (take-take from end parts h))
    ∙ take-append-drop from (take end parts)

-- what is listed after a group more
pub listed_more : (groups : List GroupShape) (rows : KeyRows) (before : List SignatureParts) (from end : ℕ) → AreOfShape rows → from ≤ end → end ≤ length rows.parts →
    ((k : ℕ) → from ≤ k → k < end → (part_at rows.parts k).values ≡ (part_at rows.parts from).values) →
    listed_of groups ≡ before ++ take from rows.parts → listed_of (groups ++ group_between rows from end ∷ []) ≡ before ++ take end rows.parts
listed_more groups rows before from end shape h k same listed =
    let group = group_between rows from end in
    flat_map-append parts_of_group groups (group ∷ [])
    ∙ ap (λ ps. listed_of groups ++ ps) (append-nil (parts_of_group group) ∙ parts_of_run rows from end shape h k same)
    ∙ ap (λ ps. ps ++ slice_range rows.parts from end) listed
    ∙ append_assoc before (take from rows.parts) (slice_range rows.parts from end)
    ∙ ap (λ ps. before ++ ps) (front_and_run rows.parts from end h)

-- a group is one of those before, or has the key and the values of a row below a place
abbrev pub IsKnown : List GroupShape → KeyRows → ℕ → GroupShape → Type 0
IsKnown before rows from group = Contains before group ⊎ ((group.key ≡ rows.key) × ((k : ℕ) × (k < from) × ((part_at rows.parts k).values ≡ group.values)))

pub known_more : (groups before : List GroupShape) (rows : KeyRows) (from end : ℕ) → from < end → ((g : GroupShape) → Contains groups g → IsKnown before rows from g) →
    (g : GroupShape) → Contains (groups ++ group_between rows from end ∷ []) g → IsKnown before rows end g
known_more groups before rows from end h known g has = elim (Contains-push_cases groups (group_between rows from end) g has) [
  | inl old ↦ elim (known g old) [ inl first ↦ inl first | inr x ↦ inr (x.0, (x.1.0, omega (arith, x.1.1), x.1.2)) ]
  | inr new ↦ inr (sym (ap (λ (s : GroupShape). s.key) new), (from, h, ap (λ (s : GroupShape). s.values) new))
]

-- groups stay apart after one with values that none of them has
pub apart_more : (groups before : List GroupShape) (rows : KeyRows) (from end : ℕ) → from < end → end ≤ length rows.parts → All (λ group. group.key ≢ rows.key) before →
    ((g : GroupShape) → Contains groups g → IsKnown before rows from g) → IsBorder rows.parts from → AreApart groups → AreApart (groups ++ group_between rows from end ∷ [])
apart_more groups before rows from end some within fresh known border apart =
    let group = group_between rows from end in
    let more = length_push groups group in
    let none : GroupShape = record { key = 0; values = []; rows = [] } in
    let old : (i : ℕ) → i < length groups → group_at (groups ++ group ∷ []) i ≡ group_at groups i = get_or_append_left groups (group ∷ []) none in
    let new : (i : ℕ) → length groups ≡ i → group_at (groups ++ group ∷ []) i ≡ group = get_or_push groups group none in
    let apart_from : (i : ℕ) → i < length groups → (group_at groups i).key ≡ rows.key → (group_at groups i).values ≡ (part_at rows.parts from).values → ⊥ = λ i h is_key is_values.
    let has : Contains groups (group_at groups i) = Contains-get_or groups i none h in
    elim (known (group_at groups i) has) [
      | inl first ↦ All-contains (λ (g : GroupShape). g.key ≢ rows.key) before (group_at groups i) fresh first is_key
      | inr x ↦ border x.1.0 from x.1.1 (omega arith) (omega arith) (x.1.2 ∙ is_values)
    ] in
    record {
      apart = λ i j hi hj same_key same_values. elim (cases_lt i (length groups)) [
        | inl li ↦ (elim (cases_lt j (length groups)) [
          | inl lj ↦ apart.apart i j li lj (ap (λ (g : GroupShape). g.key) (sym (old i li)) ∙ same_key ∙ ap (λ (g : GroupShape). g.key) (old j lj)) (ap (λ (g : GroupShape). g.values) (sym (old i li)) ∙ same_values ∙ ap (λ (g : GroupShape). g.values) (old j lj))
          | inr gj ↦ let e : length groups ≡ j = omega arith in
              absurd (apart_from i li (ap (λ (g : GroupShape). g.key) (sym (old i li)) ∙ same_key ∙ ap (λ (g : GroupShape). g.key) (new j e)) (ap (λ (g : GroupShape). g.values) (sym (old i li)) ∙ same_values ∙ ap (λ (g : GroupShape). g.values) (new j e)))
        ])
        | inr gi ↦ (let e : length groups ≡ i = omega arith in
            elim (cases_lt j (length groups)) [
              | inl lj ↦ absurd (apart_from j lj (ap (λ (g : GroupShape). g.key) (sym (old j lj)) ∙ sym same_key ∙ ap (λ (g : GroupShape). g.key) (new i e)) (ap (λ (g : GroupShape). g.values) (sym (old j lj)) ∙ sym same_values ∙ ap (λ (g : GroupShape). g.values) (new i e)))
              | inr gj ↦ omega arith
            ])
      ];
      some = All-push (λ (g : GroupShape). 0 < length g.rows) groups group apart.some (omega (arith, length_between rows.parts from end (omega arith) within));
    }

-- one list more, of lists joined end to end
concat-push : (rows : List (List ℕ)) (row : List ℕ) → concat (rows ++ row ∷ []) ≡ concat rows ++ row
concat-push [] row = append-nil row
concat-push (r ∷ rows) row = ap (λ xs. r ++ xs) (concat-push rows row) ∙ sym (append_assoc r (concat rows) row)

-- one row more of a range
pub between_more : (parts : List SignatureParts) (from row : ℕ) → from ≤ row → row < length parts →
    concat (rows_between parts from (row + 1)) ≡ concat (rows_between parts from row) ++ (part_at parts row).name ∷ (part_at parts row).images
between_more parts from row h k =
    let none : SignatureParts = record { key = 0; name = 0; values = []; images = [] } in
    let count : row + 1 - from ≡ row - from + 1 = omega arith in
    let at : from + (row - from) ≡ row = omega arith in
    let more : slice_range parts from (row + 1) ≡ slice_range parts from row ++ part_at parts row ∷ [] =
    ap (λ n. take n (drop from parts)) count
    ∙ take_more (drop from parts) (row - from) none (omega (arith, length-drop from parts))
    ∙ ap (λ p. slice_range parts from row ++ p ∷ []) (get_or-drop from parts (row - from) none ∙ ap (part_at parts) at) in
    ap (λ ps. concat (map (λ (p : SignatureParts). p.name ∷ p.images) ps)) more
    ∙ ap concat (map_push (λ (p : SignatureParts). p.name ∷ p.images) (slice_range parts from row) (part_at parts row))
    ∙ concat-push (rows_between parts from row) ((part_at parts row).name ∷ (part_at parts row).images)

-- the name and the images of a row were put behind
pub put_more : (old now pushed longer : List ℕ) (parts : List SignatureParts) (from row name : ℕ) (images : List ℕ) → from ≤ row → row < length parts →
    now ≡ old ++ concat (rows_between parts from row) → pushed ≡ now ++ name ∷ [] → longer ≡ pushed ++ images → name ≡ (part_at parts row).name → images ≡ (part_at parts row).images →
    longer ≡ old ++ concat (rows_between parts from (row + 1))
put_more old now pushed longer parts from row name images h k before first second is_name is_images =
    second
    ∙ ap (λ xs. xs ++ images) first
    ∙ append_assoc now (name ∷ []) images
    ∙ ap (λ n. now ++ n ∷ images) is_name
    ∙ ap (λ xs. now ++ (part_at parts row).name ∷ xs) is_images
    ∙ ap (λ xs. xs ++ (part_at parts row).name ∷ (part_at parts row).images) before
    ∙ append_assoc old (concat (rows_between parts from row)) ((part_at parts row).name ∷ (part_at parts row).images)
    ∙ ap (λ xs. old ++ xs) (sym (between_more parts from row h k))

-- what is read by a head
pub group_is : (values cells : List ℕ) (heads : List Head) (place : ℕ) (head : Head) → place < length heads → head ≡ get_or heads place head → All (IsWithin (length values) (length cells)) heads →
    (let group : GroupShape = record {
      key = head.key;
      values = slice_range values head.first_value (head.first_value + head.value_count);
      rows = rows_of (slice_range cells head.first_cell (head.first_cell + head.row_count * (head.image_count + 1))) (head.image_count + 1) head.row_count;
    } in group) ≡ group_at (map (shape_of values cells) heads) place
group_is values cells heads place head h is all =
    let size : ℕ = head.row_count * (head.image_count + 1) in
    let at : IsWithin (length values) (length cells) head = subst (IsWithin (length values) (length cells)) (sym is) (all place head h) in
    let in_cells = at.cells in
    let v : slice_range values head.first_value (head.first_value + head.value_count) ≡ values_at values head =
    (let n : head.first_value + head.value_count - head.first_value ≡ head.value_count = omega arith in ap (λ k. take k (drop head.first_value values)) n) in
    let r : rows_of (slice_range cells head.first_cell (head.first_cell + size)) (head.image_count + 1) head.row_count ≡ rows_of (drop head.first_cell cells) (head.image_count + 1) head.row_count =
    (let n : head.first_cell + size - head.first_cell ≡ size = omega arith in
    ap (λ k. rows_of (take k (drop head.first_cell cells)) (head.image_count + 1) head.row_count) n
    ∙ rows_of_front (drop head.first_cell cells) (head.image_count + 1) head.row_count size refl (omega (arith, length-drop head.first_cell cells))) in
    let make : List ℕ → List (List ℕ) → GroupShape = λ vs rs. record { key = head.key; values = vs; rows = rs } in
    ap (λ vs. make vs (rows_of (slice_range cells head.first_cell (head.first_cell + size)) (head.image_count + 1) head.row_count)) v
    ∙ ap (make (values_at values head)) r
    ∙ ap (shape_of values cells) is
    ∙ sym (get_or-map (shape_of values cells) heads place head _ h)

-- what a head tells of that was put behind both arrays
pub record IsPut (values cells new_values : List ℕ) (rows : List (List ℕ)) (head : Head) : Type 0 where
  pub first_value : head.first_value ≡ length values
  pub first_cell : head.first_cell ≡ length cells
  pub count : length new_values ≡ head.value_count
  pub many : length rows ≡ head.row_count
  pub wide : All (λ row. length row ≡ head.image_count + 1) rows

pub heads_put : (values cells new_values : List ℕ) (rows : List (List ℕ)) (heads : List Head) (head : Head) → IsPut values cells new_values rows head →
    All (IsWithin (length values) (length cells)) heads → All (IsWithin (length (values ++ new_values)) (length (cells ++ concat rows))) (heads ++ head ∷ [])
heads_put values cells new_values rows heads head put all =
    let v = length-append values new_values in
    let w = length-append cells (concat rows) in
    let size : length (concat rows) ≡ head.row_count * (head.image_count + 1) = length-concat rows (head.image_count + 1) put.wide ∙ ap (λ n. n * (head.image_count + 1)) put.many in
    let first_value = put.first_value in
    let first_cell = put.first_cell in
    let count = put.count in
    All-push (IsWithin (length (values ++ new_values)) (length (cells ++ concat rows))) heads head
    (within_more (length values) (length cells) (length (values ++ new_values)) (length (cells ++ concat rows)) heads (omega arith) (omega arith) all)
    (record { values = omega arith; cells = omega arith })

pub view_put : (values cells new_values : List ℕ) (rows : List (List ℕ)) (heads : List Head) (head : Head) → IsPut values cells new_values rows head →
    All (IsWithin (length values) (length cells)) heads →
    map (shape_of (values ++ new_values) (cells ++ concat rows)) (heads ++ head ∷ []) ≡ map (shape_of values cells) heads ++ (record { key = head.key; values = new_values; rows = rows }) ∷ []
view_put values cells new_values rows heads head put all =
    map_push (shape_of (values ++ new_values) (cells ++ concat rows)) heads head
    ∙ ap (λ gs. gs ++ shape_of (values ++ new_values) (cells ++ concat rows) head ∷ []) (shapes_kept values cells new_values (concat rows) heads all)
    ∙ ap (λ g. map (shape_of values cells) heads ++ g ∷ []) (shape_put values cells new_values rows head put.first_value put.first_cell put.count put.many put.wide)

-- the head of a run that was put behind both arrays
pub run_put : (rows : KeyRows) (from end : ℕ) (values cells new_values : List ℕ) (head : Head) → AreOfShape rows → from < end → end ≤ length rows.parts →
    head.first_value ≡ length values → head.first_cell ≡ length cells → new_values ≡ (part_at rows.parts from).values → head.value_count ≡ rows.value_count →
    head.image_count ≡ rows.image_count → head.row_count ≡ end - from → IsPut values cells new_values (rows_between rows.parts from end) head
run_put rows from end values cells new_values head shape h k first_value first_cell is_values value_count image_count row_count =
    let none : SignatureParts = record { key = 0; name = 0; values = []; images = [] } in
    record {
      first_value = first_value;
      first_cell = first_cell;
      count = ap (λ (vs : List ℕ). length vs) is_values ∙ (shape from none (omega arith)).values ∙ sym value_count;
      many = length_between rows.parts from end (omega arith) k ∙ sym row_count;
      wide = subst (λ n. All (λ row. length row ≡ n + 1) (rows_between rows.parts from end)) (sym image_count) (wide_between rows from end shape);
    }
