-- Rows in the order of their numbers.
use Rattle.std.proofs.Common.{List, [], ◌∷◌, ◌++◌, ℕ, length, get_or, All, AllPairs, true, false, ◌≡◌, ◌<◌, ◌≤◌, ◌+◌, inl, inr, refl, ap, ap₂, sym, ◌∙◌, arith}
use Rattle.std.proofs.lemmas.Bool.{cases_lt, cases_order, le-ltb, lt-ltb, eq-eqb, ne_eqb}
use Rattle.std.proofs.lemmas.Cmp.{nat_list_cmp_total}
use Rattle.std.proofs.lemmas.List.Sorted.{ranks_by, sorted_far}
use Rattle.std.specs.Ordering.{nat_cmp, is_lt, ordering_then}
use Rattle.std.specs.declared.cmp.Ordering.TheVariants.{Less, Equal, Greater}
use Rattle.std.specs.Cmp.Lexicographic.{slice_cmp}
use Rattle.chase_laws.specs.Signature.{SignatureParts}
use Rattle.valuation_groups.specs.Rows.{part_at, cells_in, Precedes, AscendByValues}

pub below : (x y : ℕ) → x < y → nat_cmp x y ≡ Less
below x y h = rw (lt-ltb x y h) refl

pub level : (x y : ℕ) → x ≡ y → nat_cmp x y ≡ Equal
level x y h = rw (le-ltb x y (omega arith), eq-eqb x y h) refl

pub over : (x y : ℕ) → y < x → nat_cmp x y ≡ Greater
over x y h = rw (le-ltb x y (omega arith), ne_eqb x y (λ e. omega arith)) refl

-- lists of which neither comes first are equal
pub neither_first : (xs ys : List ℕ) → is_lt (slice_cmp nat_cmp xs ys) ≡ false → is_lt (slice_cmp nat_cmp ys xs) ≡ false → xs ≡ ys
neither_first [] [] h k = refl
neither_first [] (y ∷ ys) h k = absurd (cc)
neither_first (x ∷ xs) [] h k = absurd (cc)
neither_first (x ∷ xs) (y ∷ ys) h k = elim (cases_order x y) [
  | inl same ↦
      let front = ap (λ o. is_lt (ordering_then o (slice_cmp nat_cmp xs ys))) (sym (level x y same)) in
      let back = ap (λ o. is_lt (ordering_then o (slice_cmp nat_cmp ys xs))) (sym (level y x (sym same))) in
      ap₂ (λ z zs. z ∷ zs) same (neither_first xs ys (front ∙ h) (back ∙ k))
  | inr (inl lt) ↦ absurd (let e : true ≡ false = ap (λ o. is_lt (ordering_then o (slice_cmp nat_cmp xs ys))) (sym (below x y lt)) ∙ h in cc)
  | inr (inr gt) ↦ absurd (let e : true ≡ false = ap (λ o. is_lt (ordering_then o (slice_cmp nat_cmp ys xs))) (sym (below y x gt)) ∙ k in cc)
]

-- between two rows of equal values all have them
pub alike_between : (parts : List SignatureParts) → AscendByValues parts → (i j k : ℕ) → i ≤ j → j ≤ k → k < length parts → (part_at parts k).values ≡ (part_at parts i).values →
    (part_at parts j).values ≡ (part_at parts i).values
alike_between parts up i j k ij jk in_k same =
    let by = ranks_by nat_list_cmp_total (λ (p : SignatureParts). p.values) in
    let low : is_lt (slice_cmp nat_cmp (part_at parts j).values (part_at parts i).values) ≡ false = sorted_far (λ (p q : SignatureParts). is_lt (slice_cmp nat_cmp p.values q.values)) by parts up i j _ ij (omega arith) in
    let high : is_lt (slice_cmp nat_cmp (part_at parts k).values (part_at parts j).values) ≡ false = sorted_far (λ (p q : SignatureParts). is_lt (slice_cmp nat_cmp p.values q.values)) by parts up j k _ jk in_k in
    neither_first (part_at parts j).values (part_at parts i).values low (ap (λ vs. is_lt (slice_cmp nat_cmp vs (part_at parts j).values)) (sym same) ∙ high)

-- the rows below a place have other values than those from it on
abbrev pub IsBorder : List SignatureParts → ℕ → Type 0
IsBorder parts at = (i j : ℕ) → i < at → at ≤ j → j < length parts → (part_at parts i).values ≡ (part_at parts j).values → ⊥

-- the end of a run is such a place, where its beginning was
pub next_border : (parts : List SignatureParts) (from end : ℕ) → AscendByValues parts → from < end → IsBorder parts from →
    ((k : ℕ) → from ≤ k → k < end → (part_at parts k).values ≡ (part_at parts from).values) →
    (end < length parts → (part_at parts end).values ≡ (part_at parts from).values → ⊥) → IsBorder parts end
next_border parts from end up some before same other i j i_end end_j j_in e = elim (cases_lt i from) [
  | inl lt ↦ before i j lt (omega arith) j_in e
  | inr ge ↦
      let back : (part_at parts j).values ≡ (part_at parts from).values = sym e ∙ same i ge i_end in
      other (omega arith) (alike_between parts up from end j (omega arith) end_j j_in back)
]

-- where the list behind equally long fronts comes first, the front does not come behind
front_not_over : (a b x y : List ℕ) → length a ≡ length b → slice_cmp nat_cmp (a ++ x) (b ++ y) ≡ Less → is_lt (slice_cmp nat_cmp b a) ≡ false
front_not_over [] [] x y long h = refl
front_not_over [] (n ∷ b) x y long h = absurd (omega arith)
front_not_over (m ∷ a) [] x y long h = absurd (omega arith)
front_not_over (m ∷ a) (n ∷ b) x y long h = elim (cases_order m n) [
  | inl same ↦
      let e : slice_cmp nat_cmp (a ++ x) (b ++ y) ≡ Less = ap (λ o. ordering_then o (slice_cmp nat_cmp (a ++ x) (b ++ y))) (sym (level m n same)) ∙ h in
      ap (λ o. is_lt (ordering_then o (slice_cmp nat_cmp b a))) (level n m (sym same)) ∙ front_not_over a b x y (omega arith) e
  | inr (inl lt) ↦ ap (λ o. is_lt (ordering_then o (slice_cmp nat_cmp b a))) (over n m lt)
  | inr (inr gt) ↦ absurd (let e : Greater ≡ Less = ap (λ o. ordering_then o (slice_cmp nat_cmp (a ++ x) (b ++ y))) (sym (over m n gt)) ∙ h in cc)
]

-- behind equal fronts the first number does not fall
next_not_over : (a x y : List ℕ) (m n : ℕ) → slice_cmp nat_cmp (a ++ m ∷ x) (a ++ n ∷ y) ≡ Less → m ≤ n
next_not_over [] x y m n h = elim (cases_order m n) [
  | inl same ↦ omega arith
  | inr (inl lt) ↦ omega arith
  | inr (inr gt) ↦ absurd (let e : Greater ≡ Less = ap (λ o. ordering_then o (slice_cmp nat_cmp x y)) (sym (over m n gt)) ∙ h in cc)
]
next_not_over (k ∷ a) x y m n h = next_not_over a x y m n (ap (λ o. ordering_then o (slice_cmp nat_cmp (a ++ m ∷ x) (a ++ n ∷ y))) (sym (level k k refl)) ∙ h)

-- of two rows in order the values do not fall, and of equal values the names do not
pub values_not_over : (p q : SignatureParts) → length p.values ≡ length q.values → Precedes p q → is_lt (slice_cmp nat_cmp q.values p.values) ≡ false
values_not_over p q long h = front_not_over p.values q.values (p.name ∷ p.images) (q.name ∷ q.images) long h

pub names_not_over : (p q : SignatureParts) → p.values ≡ q.values → Precedes p q → p.name ≤ q.name
names_not_over p q same h = next_not_over q.values p.images q.images p.name q.name (ap (λ vs. slice_cmp nat_cmp (vs ++ p.name ∷ p.images) (cells_in q)) (sym same) ∙ h)

-- a row does not precede itself
not_itself : (xs : List ℕ) → slice_cmp nat_cmp xs xs ≡ Less → ⊥
not_itself [] h = cc
not_itself (x ∷ xs) h = not_itself xs (ap (λ o. ordering_then o (slice_cmp nat_cmp xs xs)) (sym (level x x refl)) ∙ h)

pub different : (p q : SignatureParts) → Precedes p q → p ≡ q → ⊥
different p q h e = not_itself (cells_in q) (ap (λ (r : SignatureParts). slice_cmp nat_cmp (cells_in r) (cells_in q)) (sym e) ∙ h)

-- rows in order ascend by their values
pub ascend_from_rising : (parts : List SignatureParts) (n : ℕ) → All (λ p. length p.values ≡ n) parts → AllPairs Precedes parts → AscendByValues parts
ascend_from_rising parts n long rising k d from in_k =
    let p = get_or parts k d in
    let q = get_or parts (k + 1) d in
    values_not_over p q (long k d (omega arith) ∙ sym (long (k + 1) d in_k)) (rising k (k + 1) d (omega arith) in_k)
