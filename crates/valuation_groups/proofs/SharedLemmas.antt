-- Which rows are shared, and the numbers of rows in order.
use Rattle.std.proofs.Common.{List, [], ◌∷◌, ◌++◌, ℕ, zero, suc, length, get_or, take, drop, map, min, All, AllPairs, Contains, Bool, true, false, not, nat_eq, filter, ◌&&◌, ◌≡◌, ◌≢◌, ◌<◌, ◌≤◌, ◌+◌, ◌-◌, ◌⊎◌, ◌↔◌, inl, inr, refl, ap, ap₂, sym, ◌∙◌, subst, arith}
use Rattle.std.specs.Prelude.{slice_range}
use Rattle.std.specs.List.{range_with_len, dedup}
use Rattle.std.specs.List.Sorted.{IsPermutation, IsSortedByKey, IsStrictlySortedBy}
use Rattle.std.specs.Ordering.{nat_cmp, on}
use Rattle.std.specs.Cmp.Lexicographic.{slice_cmp, pointwise, texts_ties}
use Rattle.std.specs.declared.cmp.Ordering.TheVariants.{Less}
use Rattle.std.proofs.lemmas.Bool.{cases_Bool, cases_lt, cases_eq, cond-true, cond-false, and_parts, eq-eqb, eqb-true, ne_eqb}
use Rattle.std.proofs.lemmas.Cmp.{nat_list_cmp_total, nat_list_eq_equiv, on_total, on_equiv}
use Rattle.std.proofs.lemmas.List.{get_or-map, get_or_default, length-map, length-take, get_or-drop, get_or-take, map-id, map_more, take-map, drop-map, take_at, drop_at, append_assoc, append-nil}
use Rattle.std.proofs.lemmas.List.Elements.{All-contains, Contains-get_or, filter-append}
use Rattle.std.proofs.lemmas.List.Filters.{All-dedup}
use Rattle.std.proofs.lemmas.List.Folds.{Any-from_list_any, list_any-from_Any}
use Rattle.std.proofs.lemmas.List.FromFn.{length-range_with_len, get_or-range_with_len, map-range_with_len_more}
use Rattle.std.proofs.lemmas.List.Kept.{Any-dedup, AllPairs-filter, IsStrictlySortedBy-dedup}
use Rattle.std.proofs.lemmas.List.Sorted.{All-permutation, Contains-permutation}
use Rattle.std.proofs.lemmas.Map.Keys.{Less-from_sorted}
use Rattle.chase_laws.specs.Signature.{SignatureParts}
use Rattle.valuation_groups.specs.Rows.{KeyRows, part_at, cells_in, row_numbered, have_equal_rows, IsOfShape, AreOfShape, IsShared, Precedes, StandOnce, AscendByValues}
use Rattle.valuation_groups.specs.Shared.{shares_with, is_shared, in_order, kept_of, grown}
use Rattle.valuation_groups.proofs.OrderLemmas.{IsBorder, next_border, names_not_over, different, ascend_from_rising}
use Rattle.valuation_groups.proofs.GroupLemmas.{front_and_run}

-- ---- lists that are filtered

Contains-tail : {X : Type 0} (y : X) (xs : List X) (x : X) → Contains xs x → Contains (y ∷ xs) x
Contains-tail y xs x h = (suc h.0, omega (arith, h.1), h.2)

Contains-cons_cases : {X : Type 0} (y : X) (xs : List X) (x : X) → Contains (y ∷ xs) x → (y ≡ x) ⊎ Contains xs x
Contains-cons_cases {X} y xs x h = go h.0 h.1 h.2
  where
    go : (k : ℕ) → k < length (y ∷ xs) → get_or (y ∷ xs) k x ≡ x → (y ≡ x) ⊎ Contains xs x
    go zero lt e = inl e
    go (suc k) lt e = inr (k, omega arith, e)

Contains-filter : {X : Type 0} (p : X → Bool) (xs : List X) (x : X) → Contains (filter p xs) x → Contains xs x × (p x ≡ true)
Contains-filter p [] x h = absurd (omega (arith, h.1))
Contains-filter {X} p (y ∷ ys) x h = elim (cases_Bool (p y)) [
  | inl t ↦ elim (Contains-cons_cases y (filter p ys) x (subst (λ zs. Contains zs x) (cond-true (p y) (y ∷ filter p ys) (filter p ys) t) h)) [
    | inl e ↦ ((0, omega arith, e), ap p (sym e) ∙ t)
    | inr k ↦ (let r = Contains-filter p ys x k in (Contains-tail y ys x r.0, r.1))
  ]
  | inr f ↦ (let r = Contains-filter p ys x (subst (λ zs. Contains zs x) (cond-false (p y) (y ∷ filter p ys) (filter p ys) f) h) in (Contains-tail y ys x r.0, r.1))
]

filter-Contains : {X : Type 0} (p : X → Bool) (xs : List X) (x : X) → Contains xs x → p x ≡ true → Contains (filter p xs) x
filter-Contains p [] x h t = absurd (omega (arith, h.1))
filter-Contains {X} p (y ∷ ys) x h t = elim (cases_Bool (p y)) [
  | inl u ↦ subst (λ zs. Contains zs x) (sym (cond-true (p y) (y ∷ filter p ys) (filter p ys) u)) (elim (Contains-cons_cases y ys x h) [
    | inl e ↦ (0, omega arith, e)
    | inr k ↦ Contains-tail y (filter p ys) x (filter-Contains p ys x k t)
  ])
  | inr f ↦ subst (λ zs. Contains zs x) (sym (cond-false (p y) (y ∷ filter p ys) (filter p ys) f)) (elim (Contains-cons_cases y ys x h) [
    | inl e ↦ absurd (let g : p x ≡ false = ap p (sym e) ∙ f in cc)
    | inr k ↦ filter-Contains p ys x k t
  ])
]

filter_whole : {X : Type 0} (p : X → Bool) (xs : List X) → All (λ x. p x ≡ true) xs → filter p xs ≡ xs
filter_whole p [] all = refl
filter_whole p (y ∷ ys) all = cond-true (p y) (y ∷ filter p ys) (filter p ys) (all 0 y (omega arith)) ∙ ap (λ zs. y ∷ zs) (filter_whole p ys (λ k d h. all (suc k) d (omega arith)))

filter_none : {X : Type 0} (p : X → Bool) (xs : List X) → All (λ x. p x ≡ false) xs → filter p xs ≡ []
filter_none p [] all = refl
filter_none p (y ∷ ys) all = cond-false (p y) (y ∷ filter p ys) (filter p ys) (all 0 y (omega arith)) ∙ filter_none p ys (λ k d h. all (suc k) d (omega arith))

-- ---- the test

same_values : (xs ys : List ℕ) → pointwise nat_eq xs ys ≡ true → xs ≡ ys
same_values [] [] e = refl
same_values [] (b ∷ y) e = absurd (cc)
same_values (a ∷ x) [] e = absurd (cc)
same_values (a ∷ x) (b ∷ y) e = let h = and_parts (nat_eq a b) (pointwise nat_eq x y) e in ap₂ (λ n ns. n ∷ ns) (eqb-true a b h.0) (same_values x y h.1)

values_same : (xs : List ℕ) → pointwise nat_eq xs xs ≡ true
values_same [] = refl
values_same (x ∷ xs) = rw (eq-eqb x x refl) (values_same xs)

shares_true : (p q : SignatureParts) → q.values ≡ p.values → q.name ≢ p.name → shares_with p q ≡ true
shares_true p q same other =
    let v : pointwise nat_eq q.values p.values ≡ true = subst (λ vs. pointwise nat_eq q.values vs ≡ true) same (values_same q.values) in
    ap (λ b. b && not (nat_eq q.name p.name)) v ∙ ap not (ne_eqb q.name p.name other)

shares_only : (p q : SignatureParts) → shares_with p q ≡ true → (q.values ≡ p.values) × (q.name ≢ p.name)
shares_only p q e =
    let h = and_parts (pointwise nat_eq q.values p.values) (not (nat_eq q.name p.name)) e in
    (same_values q.values p.values h.0, (λ same. let f : not true ≡ true = ap not (sym (eq-eqb q.name p.name same)) ∙ h.1 in cc))

shared_only : (parts : List SignatureParts) (p : SignatureParts) → is_shared parts p ≡ true → IsShared parts p
shared_only parts p e =
    let a = Any-from_list_any (shares_with p) parts e in
    let q : SignatureParts = a.1 in
    let both = shares_only p q a.4 in
    (q, (a.0, a.2, a.3), both.0, both.1)

shared_true : (parts : List SignatureParts) (p q : SignatureParts) → Contains parts q → q.values ≡ p.values → q.name ≢ p.name → is_shared parts p ≡ true
shared_true parts p q has same other = list_any-from_Any (shares_with p) parts (has.0, q, has.1, has.2, shares_true p q same other)

shared_false : (parts : List SignatureParts) (p : SignatureParts) → ((q : SignatureParts) → Contains parts q → q.values ≡ p.values → q.name ≢ p.name → ⊥) → is_shared parts p ≡ false
shared_false parts p none = elim (cases_Bool (is_shared parts p)) [
  | inl t ↦ absurd (let s = shared_only parts p t in none s.0 s.1 s.2 s.3)
  | inr f ↦ f
]

-- ---- numbers of rows

range_below : (n : ℕ) → All (λ k. k < n) (range_with_len 0 n)
range_below n k d h =
    let in_n : k < n = omega (arith, length-range_with_len 0 n) in
    let is : get_or (range_with_len 0 n) k d ≡ 0 + k = get_or-range_with_len 0 n k d in_n in
    omega arith

pub range_more : (n : ℕ) → range_with_len 0 (n + 1) ≡ range_with_len 0 n ++ n ∷ []
range_more n =
    sym (map-id (range_with_len 0 (n + 1)))
    ∙ map-range_with_len_more (λ (k : ℕ). k) 0 n n (omega arith)
    ∙ ap (λ ks. ks ++ n ∷ []) (map-id (range_with_len 0 n))

row_is : (parts : List SignatureParts) (n : ℕ) → n < length parts → row_numbered parts n ≡ cells_in (part_at parts n)
row_is parts n h = get_or-map cells_in parts n _ [] h

-- parts of one shape with the same row are the same
same_cells : (p q : SignatureParts) → p.key ≡ q.key → length p.values ≡ length q.values → cells_in p ≡ cells_in q → p ≡ q
same_cells p q same_key long e =
    let values : p.values ≡ q.values =
    sym (take_at p.values (p.name ∷ p.images) (length p.values) refl) ∙ ap (take (length p.values)) e ∙ take_at q.values (q.name ∷ q.images) (length p.values) (sym long) in
    let rest : p.name ∷ p.images ≡ q.name ∷ q.images =
    sym (drop_at p.values (p.name ∷ p.images) (length p.values) refl) ∙ ap (drop (length p.values)) e ∙ drop_at q.values (q.name ∷ q.images) (length p.values) (sym long) in
    let make : ℕ → ℕ → List ℕ → List ℕ → SignatureParts = λ k n vs is. record { key = k; name = n; values = vs; images = is } in
    ap (λ k. make k p.name p.values p.images) same_key
    ∙ ap (λ n. make q.key n p.values p.images) (ap (λ xs. get_or xs 0 0) rest)
    ∙ ap (λ vs. make q.key q.name vs p.images) values
    ∙ ap (make q.key q.name q.values) (ap (drop 1) rest)

same_part : (rows : KeyRows) (m n : ℕ) → AreOfShape rows → m < length rows.parts → n < length rows.parts → row_numbered rows.parts m ≡ row_numbered rows.parts n →
    part_at rows.parts m ≡ part_at rows.parts n
same_part rows m n shape in_m in_n e =
    let p = shape m (record { key = 0; name = 0; values = []; images = [] }) in_m in
    let q = shape n (record { key = 0; name = 0; values = []; images = [] }) in_n in
    same_cells (part_at rows.parts m) (part_at rows.parts n) (p.key ∙ sym q.key) (p.values ∙ sym q.values) (sym (row_is rows.parts m in_m) ∙ e ∙ row_is rows.parts n in_n)

-- numbers that were sorted, of equal rows one being left
pub ordered_numbers : (parts : List SignatureParts) (sorted order : List ℕ) → IsPermutation (range_with_len 0 (length parts)) sorted → order ≡ dedup (have_equal_rows parts) sorted →
    All (λ n. n < length parts) order
ordered_numbers parts sorted order moved is =
    subst (All (λ n. n < length parts)) (sym is) (All-dedup (have_equal_rows parts) (λ n. n < length parts) sorted
    (All-permutation (λ n. n < length parts) (range_with_len 0 (length parts)) sorted moved (range_below (length parts))))

pub ordered_rising : (parts : List SignatureParts) (sorted order : List ℕ) → IsPermutation (range_with_len 0 (length parts)) sorted → order ≡ dedup (have_equal_rows parts) sorted →
    IsSortedByKey (row_numbered parts) (slice_cmp nat_cmp) sorted → AllPairs (λ m n. Precedes (part_at parts m) (part_at parts n)) order
ordered_rising parts sorted order moved is up i j d ij in_j =
    let key = row_numbered parts in
    let strict = IsStrictlySortedBy-dedup (on_total key nat_list_cmp_total) (λ x y. texts_ties (key x) (key y)) sorted up in
    let less : slice_cmp nat_cmp (key (get_or order i d)) (key (get_or order j d)) ≡ Less =
    Less-from_sorted (on key (slice_cmp nat_cmp)) order i j d (subst (IsStrictlySortedBy (on key (slice_cmp nat_cmp))) (sym is) strict) ij in_j in
    let all = ordered_numbers parts sorted order moved is in
    ap₂ (slice_cmp nat_cmp) (sym (row_is parts (get_or order i d) (all i d (omega arith)))) (sym (row_is parts (get_or order j d) (all j d in_j))) ∙ less

pub ordered_all : (rows : KeyRows) (sorted order : List ℕ) → AreOfShape rows → IsPermutation (range_with_len 0 (length rows.parts)) sorted → order ≡ dedup (have_equal_rows rows.parts) sorted →
    (p : SignatureParts) → Contains rows.parts p → Contains (map (part_at rows.parts) order) p
ordered_all rows sorted order shape moved is p has =
    let none : SignatureParts = record { key = 0; name = 0; values = []; images = [] } in
    let parts = rows.parts in
    let key = row_numbered parts in
    let n : ℕ = has.0 in
    let in_n : n < length parts = has.1 in
    let there : part_at parts n ≡ p = get_or_default parts n none p in_n ∙ has.2 in
    let in_range : Contains (range_with_len 0 (length parts)) n = (n, omega (arith, length-range_with_len 0 (length parts)), get_or-range_with_len 0 (length parts) n n in_n ∙ omega arith) in
    let in_sorted : Contains sorted n = Contains-permutation (range_with_len 0 (length parts)) sorted n moved in_range in
    let found = Any-dedup (on_equiv key nat_list_eq_equiv) sorted n in_sorted in
    let at : ℕ = found.0 in
    let m : ℕ = found.1 in
    let in_order : at < length order = subst (λ (ns : List ℕ). at < length ns) (sym is) found.2 in
    let is_m : get_or order at m ≡ m = subst (λ (ns : List ℕ). get_or ns at m ≡ m) (sym is) found.3 in
    let in_m : m < length parts = subst (λ k. k < length parts) is_m (ordered_numbers parts sorted order moved is at m in_order) in
    let same : part_at parts n ≡ part_at parts m = same_part rows n m shape in_n in_m (same_values (key n) (key m) found.4) in
    (at, omega (arith, length-map order (part_at parts)), get_or-map (part_at parts) order at m p in_order ∙ ap (part_at parts) is_m ∙ sym same ∙ there)

-- ---- rows in order

pub part_in_order : (parts : List SignatureParts) (order : List ℕ) (k : ℕ) → k < length order → part_at (in_order parts order) k ≡ part_at parts (get_or order k 0)
part_in_order parts order k h = get_or-map (part_at parts) order k 0 _ h

pub rising_in_order : (parts : List SignatureParts) (order : List ℕ) → AllPairs (λ m n. Precedes (part_at parts m) (part_at parts n)) order → AllPairs Precedes (in_order parts order)
rising_in_order parts order rising i j d ij in_j =
    let in_order' : j < length order = omega (arith, length-map order (part_at parts)) in
    ap₂ (λ (p q : SignatureParts). slice_cmp nat_cmp (cells_in p) (cells_in q)) (get_or-map (part_at parts) order i 0 d (omega arith)) (get_or-map (part_at parts) order j 0 d in_order')
    ∙ rising i j 0 ij in_order'

pub only_in_order : (parts : List SignatureParts) (order : List ℕ) → All (λ n. n < length parts) order → (p : SignatureParts) → Contains (in_order parts order) p → Contains parts p
only_in_order parts order all p has =
    let k : ℕ = has.0 in
    let in_k : k < length order = omega (arith, has.1, length-map order (part_at parts)) in
    let none : SignatureParts = record { key = 0; name = 0; values = []; images = [] } in
    let is : part_at parts (get_or order k 0) ≡ p = sym (get_or-map (part_at parts) order k 0 p in_k) ∙ has.2 in
    subst (Contains parts) is (Contains-get_or parts (get_or order k 0) none (all k 0 in_k))

-- ---- a run of equal values

pub record IsRun (parts : List SignatureParts) (from end : ℕ) : Type 0 where
  pub some : from < end
  pub within : end ≤ length parts
  pub same : (k : ℕ) → from ≤ k → k < end → (part_at parts k).values ≡ (part_at parts from).values
  pub before : IsBorder parts from
  pub behind : IsBorder parts end

-- what holds at each place of a run holds in the list of its parts
all_in_run : (parts : List SignatureParts) (from end : ℕ) (Q : SignatureParts → Type 0) → end ≤ length parts → ((k : ℕ) → from ≤ k → k < end → Q (part_at parts k)) → All Q (slice_range parts from end)
all_in_run parts from end Q within each k d h =
    let n : length (slice_range parts from end) ≡ min (end - from) (length (drop from parts)) = length-take (end - from) (drop from parts) in
    let short : k < end - from = omega arith in
    let none : SignatureParts = record { key = 0; name = 0; values = []; images = [] } in
    let is : get_or (slice_range parts from end) k d ≡ part_at parts (from + k) =
    get_or-take (end - from) (drop from parts) k d short ∙ get_or-drop from parts k d ∙ get_or_default parts (from + k) d none (omega arith) in
    subst Q (sym is) (each (from + k) (omega arith) (omega arith))

-- names in a run do not fall
names_rise : (parts : List SignatureParts) (from end : ℕ) → IsRun parts from end → AllPairs Precedes parts → (i j : ℕ) → from ≤ i → i ≤ j → j < end → (part_at parts i).name ≤ (part_at parts j).name
names_rise parts from end run rising i j from_i ij j_end = elim (cases_eq i j) [
  | inl e ↦ subst (λ k. (part_at parts i).name ≤ (part_at parts k).name) e (omega arith)
  | inr ne ↦
      let within = run.within in
      names_not_over (part_at parts i) (part_at parts j) (run.same i from_i (omega arith) ∙ sym (run.same j (omega arith) j_end)) (rising i j _ (omega arith) (omega arith))
]

-- a run whose first and last names differ is shared
run_shared : (parts : List SignatureParts) (from end : ℕ) → IsRun parts from end → (part_at parts from).name ≢ (part_at parts (end - 1)).name → All (λ p. is_shared parts p ≡ true) (slice_range parts from end)
run_shared parts from end run other =
    let none : SignatureParts = record { key = 0; name = 0; values = []; images = [] } in
    let some = run.some in
    let within = run.within in
    all_in_run parts from end (λ p. is_shared parts p ≡ true) within (λ k from_k k_end.
    let p = part_at parts k in
    let first = part_at parts from in
    let last = part_at parts (end - 1) in
    let same = run.same k from_k k_end in
    elim (cases_eq first.name p.name) [
      | inl e ↦ shared_true parts p last (Contains-get_or parts (end - 1) none (omega arith)) (run.same (end - 1) (omega arith) (omega arith) ∙ sym same) (λ f. other (e ∙ sym f))
      | inr ne ↦ shared_true parts p first (Contains-get_or parts from none (omega arith)) (sym same) ne
    ])

-- one whose names are all the same is not
run_lone : (parts : List SignatureParts) (from end : ℕ) → IsRun parts from end → AllPairs Precedes parts → (part_at parts from).name ≡ (part_at parts (end - 1)).name →
    All (λ p. is_shared parts p ≡ false) (slice_range parts from end)
run_lone parts from end run rising same_name =
    let none : SignatureParts = record { key = 0; name = 0; values = []; images = [] } in
    let some = run.some in
    let within = run.within in
    let named : (j : ℕ) → from ≤ j → j < end → (part_at parts j).name ≡ (part_at parts from).name = λ j from_j j_end.
    let low = names_rise parts from end run rising from j (omega arith) from_j j_end in
    let high = names_rise parts from end run rising j (end - 1) from_j (omega arith) (omega arith) in
    omega arith in
    all_in_run parts from end (λ p. is_shared parts p ≡ false) within (λ k from_k k_end.
    shared_false parts (part_at parts k) (λ q has same other.
    let j : ℕ = has.0 in
    let in_j : j < length parts = has.1 in
    let is : part_at parts j ≡ q = get_or_default parts j none q in_j ∙ has.2 in
    let alike : (part_at parts j).values ≡ (part_at parts k).values = ap (λ (r : SignatureParts). r.values) is ∙ same in
    elim (cases_lt j from) [
      | inl lt ↦ run.before j k lt from_k (omega arith) alike
      | inr ge ↦
          (elim (cases_lt j end) [
            | inl lt ↦ other (ap (λ (r : SignatureParts). r.name) (sym is) ∙ named j ge lt ∙ sym (named k from_k k_end))
            | inr gt ↦ run.behind k j k_end gt in_j (sym alike)
          ])
    ]))

-- what is kept of a front that has a run more
pub kept_run : (parts : List SignatureParts) (from end : ℕ) → IsRun parts from end → (part_at parts from).name ≢ (part_at parts (end - 1)).name →
    filter (is_shared parts) (take end parts) ≡ filter (is_shared parts) (take from parts) ++ slice_range parts from end
kept_run parts from end run other =
    let some = run.some in
    ap (filter (is_shared parts)) (sym (front_and_run parts from end (omega arith)))
    ∙ filter-append (is_shared parts) (take from parts) (slice_range parts from end)
    ∙ ap (λ ps. filter (is_shared parts) (take from parts) ++ ps) (filter_whole (is_shared parts) (slice_range parts from end) (run_shared parts from end run other))

pub left_run : (parts : List SignatureParts) (from end : ℕ) → IsRun parts from end → AllPairs Precedes parts → (part_at parts from).name ≡ (part_at parts (end - 1)).name →
    filter (is_shared parts) (take end parts) ≡ filter (is_shared parts) (take from parts)
left_run parts from end run rising same =
    let some = run.some in
    ap (filter (is_shared parts)) (sym (front_and_run parts from end (omega arith)))
    ∙ filter-append (is_shared parts) (take from parts) (slice_range parts from end)
    ∙ ap (λ ps. filter (is_shared parts) (take from parts) ++ ps) (filter_none (is_shared parts) (slice_range parts from end) (run_lone parts from end run rising same))
    ∙ append-nil (filter (is_shared parts) (take from parts))

-- ---- the rows that are kept

pub kept_exact : (parts : List SignatureParts) (order : List ℕ) → All (λ n. n < length parts) order → ((p : SignatureParts) → Contains parts p → Contains (in_order parts order) p) →
    (p : SignatureParts) → Contains (kept_of parts order) p ↔ (Contains parts p × IsShared parts p)
kept_exact parts order numbers all p =
    let listed = in_order parts order in
    let only = only_in_order parts order numbers in (
      (λ h.
          let k = Contains-filter (is_shared listed) listed p h in
          let s = shared_only listed p k.1 in
          (only p k.0, (s.0, only s.0 s.1, s.2, s.3))),
      (λ h.
          let s = h.1 in
          filter-Contains (is_shared listed) listed p (all p h.0) (shared_true listed p s.0 (all s.0 s.1) s.2 s.3)),
    )

pub kept_once : (parts : List SignatureParts) (order : List ℕ) → AllPairs (λ m n. Precedes (part_at parts m) (part_at parts n)) order → StandOnce (kept_of parts order)
kept_once parts order rising i j d ij in_j =
    let listed = in_order parts order in
    different (get_or (kept_of parts order) i d) (get_or (kept_of parts order) j d)
    (AllPairs-filter Precedes (is_shared listed) listed (rising_in_order parts order rising) i j d ij in_j)

pub listed_ascend : (rows : KeyRows) (order : List ℕ) → AreOfShape rows → All (λ n. n < length rows.parts) order → AllPairs (λ m n. Precedes (part_at rows.parts m) (part_at rows.parts n)) order →
    AscendByValues (in_order rows.parts order)
listed_ascend rows order shape numbers rising =
    let none : SignatureParts = record { key = 0; name = 0; values = []; images = [] } in
    ascend_from_rising (in_order rows.parts order) rows.value_count (λ k d h.
    let in_k : k < length order = omega (arith, h, length-map order (part_at rows.parts)) in
    ap (λ (p : SignatureParts). length p.values) (get_or-map (part_at rows.parts) order k 0 d in_k) ∙ (shape (get_or order k 0) none (numbers k 0 in_k)).values)
    (rising_in_order rows.parts order rising)

pub kept_ascend : (rows : KeyRows) (order : List ℕ) → AreOfShape rows → All (λ n. n < length rows.parts) order → AllPairs (λ m n. Precedes (part_at rows.parts m) (part_at rows.parts n)) order →
    AscendByValues (kept_of rows.parts order)
kept_ascend rows order shape numbers rising =
    let listed = in_order rows.parts order in
    ascend_from_rising (kept_of rows.parts order) rows.value_count (λ k d h.
    let p = get_or (kept_of rows.parts order) k d in
    let has = only_in_order rows.parts order numbers p (Contains-filter (is_shared listed) listed p (Contains-get_or (kept_of rows.parts order) k d h)).0 in
    (All-contains (IsOfShape rows.key rows.value_count rows.image_count) rows.parts p shape has).values)
    (AllPairs-filter Precedes (is_shared listed) listed (rising_in_order rows.parts order rising))

-- ---- rows that are added by their numbers

pub rows_more : (start now pushed : KeyRows) (parts : List SignatureParts) (numbers : List ℕ) (at name : ℕ) (values images : List ℕ) → at < length numbers →
    (part_at parts (get_or numbers at 0)).key ≡ start.key → now ≡ grown start (map (part_at parts) (take at numbers)) →
    pushed ≡ grown now ((record { key = now.key; name = name; values = values; images = images }) ∷ []) →
    name ≡ (part_at parts (get_or numbers at 0)).name → values ≡ (part_at parts (get_or numbers at 0)).values → images ≡ (part_at parts (get_or numbers at 0)).images →
    pushed ≡ grown start (map (part_at parts) (take (at + 1) numbers))
rows_more start now pushed parts numbers at name values images h is_key before is is_name is_values is_images =
    let p = part_at parts (get_or numbers at 0) in
    let make : ℕ → ℕ → List ℕ → List ℕ → SignatureParts = λ k n vs is. record { key = k; name = n; values = vs; images = is } in
    let key : now.key ≡ p.key = ap (λ (v : KeyRows). v.key) before ∙ sym is_key in
    let added : make now.key name values images ≡ p =
    ap (λ k. make k name values images) key
    ∙ ap (λ n. make p.key n values images) is_name
    ∙ ap (λ vs. make p.key p.name vs images) is_values
    ∙ ap (make p.key p.name p.values) is_images in
    let with : List SignatureParts → KeyRows = λ ps. record { key = start.key; value_count = start.value_count; image_count = start.image_count; parts = ps } in
    is
    ∙ ap (λ q. grown now (q ∷ [])) added
    ∙ ap (λ v. grown v (p ∷ [])) before
    ∙ ap with (append_assoc start.parts (map (part_at parts) (take at numbers)) (p ∷ []) ∙ ap (λ ps. start.parts ++ ps) (sym (map_more (part_at parts) numbers at 0 h)))

-- the run that ends at a place, as the loop finds it
pub run_found : (parts : List SignatureParts) (order : List ℕ) (from end : ℕ) → from < end → end ≤ length order → AscendByValues (in_order parts order) → IsBorder (in_order parts order) from →
    ((k : ℕ) → from ≤ k → k < end → (part_at parts (get_or order k 0)).values ≡ (part_at parts (get_or order from 0)).values) →
    (end < length order → (part_at parts (get_or order end 0)).values ≡ (part_at parts (get_or order from 0)).values → ⊥) → IsRun (in_order parts order) from end
run_found parts order from end some within up before same other =
    let listed = in_order parts order in
    let long : length listed ≡ length order = length-map order (part_at parts) in
    let at : (k : ℕ) → k < length order → (part_at listed k).values ≡ (part_at parts (get_or order k 0)).values = λ k h. ap (λ (p : SignatureParts). p.values) (part_in_order parts order k h) in
    let first = at from (omega arith) in
    let each : (k : ℕ) → from ≤ k → k < end → (part_at listed k).values ≡ (part_at listed from).values = λ k h j. at k (omega arith) ∙ same k h j ∙ sym first in
    record {
      some = some;
      within = omega arith;
      same = each;
      before = before;
      behind = next_border listed from end up some before each (λ h e. other (omega arith) (sym (at end (omega arith)) ∙ e ∙ first));
    }

-- a part of an order
pub range_in_order : (parts : List SignatureParts) (order : List ℕ) (from end : ℕ) → in_order parts (slice_range order from end) ≡ slice_range (in_order parts order) from end
range_in_order parts order from end = sym (take-map (part_at parts) (end - from) (drop from order)) ∙ ap (take (end - from)) (sym (drop-map (part_at parts) from order))

-- what is kept after a run that is shared
pub kept_more : (start now pushed : KeyRows) (parts : List SignatureParts) (order : List ℕ) (from end : ℕ) → IsRun (in_order parts order) from end →
    (part_at (in_order parts order) from).name ≢ (part_at (in_order parts order) (end - 1)).name → now ≡ grown start (filter (is_shared (in_order parts order)) (take from (in_order parts order))) →
    pushed ≡ grown now (in_order parts (slice_range order from end)) → pushed ≡ grown start (filter (is_shared (in_order parts order)) (take end (in_order parts order)))
kept_more start now pushed parts order from end run other before is =
    let listed = in_order parts order in
    let front = filter (is_shared listed) (take from listed) in
    let with : List SignatureParts → KeyRows = λ ps. record { key = start.key; value_count = start.value_count; image_count = start.image_count; parts = ps } in
    is
    ∙ ap (grown now) (range_in_order parts order from end)
    ∙ ap (λ v. grown v (slice_range listed from end)) before
    ∙ ap with (append_assoc start.parts front (slice_range listed from end) ∙ ap (λ ps. start.parts ++ ps) (sym (kept_run listed from end run other)))
