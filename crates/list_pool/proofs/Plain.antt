-- What counts say of where cells stand.
use Rattle.std.proofs.Common.{List, [], ◌∷◌, ◌++◌, ℕ, suc, zero, Option, true, false, not, cond, Some, None, length, drop, Contains, ◌≡◌, ◌<◌, ◌≤◌, ◌+◌, ◌-◌, ◌↔◌, inl, inr, refl, ap, sym, ◌∙◌, subst, arith, set, add-one, eq-eqb, ne_eqb, true≢false}
use Rattle.std.specs.Prelude.{slice_get, is_some, IfSome}
use Rattle.std.proofs.lemmas.Bool.{cases_eq, cases_lt}
use Rattle.std.proofs.lemmas.List.{get_or_past}
use Rattle.std.proofs.lemmas.Option.{slice_get-get_or, slice_get_past, slice_get_within, get_or_from_slice_get}
use Rattle.list_pool.specs.Counts.{times, count_in}
use Rattle.list_pool.specs.Pool.{list_at, IsFree, without}
use Rattle.list_pool.proofs.Cuts.{head, same_some}
use Rattle.list_pool.proofs.Times.{times_nil, times-append, times_here, times_there, times_more, count_in-cons, times-le-count_in, count_in-set, filter_none}

pub head_get : (xs : List ℕ) → head xs ≡ slice_get xs 0
head_get [] = refl
head_get (x ∷ xs) = refl

-- a list round its i-th cell
pub split_get : (xs : List ℕ) (i c : ℕ) → slice_get xs i ≡ Some c → (ys : List ℕ) × (zs : List ℕ) × (xs ≡ ys ++ c ∷ zs) × (head zs ≡ slice_get xs (i + 1))
split_get [] i c e = cc
split_get (x ∷ xs) zero c e = ([], xs, ap (λ y. y ∷ xs) (same_some x c e), head_get xs ∙ ap (slice_get (x ∷ xs)) one)
  where
    one : 1 ≡ 0 + 1
    one = refl
split_get (x ∷ xs) (suc i) c e =
    let r = split_get xs i c e in
    (x ∷ r.0, r.1, ap (λ ys. x ∷ ys) r.2, r.3 ∙ rw (add-one i, add-one (suc i)) refl)

pub get_from_Contains : (xs : List ℕ) (c : ℕ) (h : Contains xs c) → slice_get xs h.0 ≡ Some c
get_from_Contains xs c h = slice_get-get_or xs h.0 c h.1 ∙ ap Some h.2

pub Contains_from_get : (xs : List ℕ) (i : ℕ) (o : Option ℕ) → o ≡ slice_get xs i → IfSome o (Contains xs)
Contains_from_get xs i None e = tt
Contains_from_get xs i (Some c) e = (i, slice_get_within xs i c (sym e), get_or_from_slice_get xs i c c (sym e))

pub times_from_get : (xs : List ℕ) (i c : ℕ) → slice_get xs i ≡ Some c → 0 < times xs c
times_from_get xs i c e =
    let s = split_get xs i c e in
    omega (arith, ap (λ vs. times vs c) s.2, times-append s.0 (c ∷ s.1) c, times_here c s.1)

pub times_from_Contains : (xs : List ℕ) (c : ℕ) → Contains xs c → 0 < times xs c
times_from_Contains xs c h = times_from_get xs h.0 c (get_from_Contains xs c h)

pub Contains_from_times : (xs : List ℕ) (c : ℕ) → 0 < times xs c → Contains xs c
Contains_from_times [] c h = absurd (omega (arith, times_nil c))
Contains_from_times (x ∷ xs) c h = elim (cases_eq x c) [
  | inl e ↦ (0, omega arith, e)
  | inr n ↦
      let k : 0 < times xs c = omega (arith, times_there x xs c n) in
      let r = Contains_from_times xs c k in
      (suc r.0, omega arith, r.2)
]

pub count_from_IsFree : (lists : List (List ℕ)) (c : ℕ) → IsFree lists c → count_in lists c ≡ 0
unfolding count_in
count_from_IsFree [] c free = refl
count_from_IsFree (xs ∷ lists) c free =
    let here : times xs c ≡ 0 = elim (cases_lt 0 (times xs c)) [
      | inl h ↦ absurd (free 0 (omega arith) (Contains_from_times xs c h))
      | inr h ↦ omega arith
    ] in
    let rest : count_in lists c ≡ 0 = count_from_IsFree lists c (λ l h. free (suc l) (omega arith)) in
    omega (arith, count_in-cons xs lists c)

pub IsFree_from_count : (lists : List (List ℕ)) (c : ℕ) → count_in lists c ≡ 0 → IsFree lists c
IsFree_from_count lists c none l h k = absurd (omega (arith, times-le-count_in lists l c h, times_from_Contains (list_at lists l) c k))

-- a list with a cell is one of the lists
pub listed : (lists : List (List ℕ)) (l i c : ℕ) → slice_get (list_at lists l) i ≡ Some c → l < length lists
listed lists l i c e = elim (cases_lt l (length lists)) [
  | inl h ↦ h
  | inr h ↦ absurd (nothing (subst (λ xs. slice_get xs i ≡ Some c) (get_or_past lists l [] h) e))
]
  where
    nothing : None ≡ Some c → ⊥
    nothing e = cc

twice : (x : ℕ) (xs : List ℕ) (j c : ℕ) → times (x ∷ xs) c ≤ 1 → x ≡ c → slice_get xs j ≡ Some c → ⊥
twice x xs j c once e f =
    let here : times (x ∷ xs) c ≡ 1 + times xs c = subst (λ y. times (y ∷ xs) c ≡ 1 + times xs c) (sym e) (times_here c xs) in
    omega (arith, times_from_get xs j c f)

-- a cell that a list has once stands there at one place
pub one_place : (xs : List ℕ) (i j c : ℕ) → times xs c ≤ 1 → slice_get xs i ≡ Some c → slice_get xs j ≡ Some c → i ≡ j
one_place [] i j c once e f = cc
one_place (x ∷ xs) zero zero c once e f = refl
one_place (x ∷ xs) zero (suc j) c once e f = absurd (twice x xs j c once (same_some x c e) f)
one_place (x ∷ xs) (suc i) zero c once e f = absurd (twice x xs i c once (same_some x c f) e)
one_place (x ∷ xs) (suc i) (suc j) c once e f = ap suc (one_place xs i j c (omega (arith, times_more x xs c)) e f)

-- a list without its first cell
pub pop_is : (xs : List ℕ) (c : ℕ) → slice_get xs 0 ≡ Some c → ((i : ℕ) → slice_get xs i ≡ Some c → 0 ≡ i) → without xs c ≡ drop 1 xs
pop_is [] c e once = refl
pop_is (x ∷ xs) c e once =
    let same : x ≡ c = same_some x c e in
    let none : times xs c ≡ 0 = elim (cases_lt 0 (times xs c)) [
      | inl h ↦ let k = Contains_from_times xs c h in let f : 0 ≡ suc k.0 = once (suc k.0) (get_from_Contains xs c k) in absurd (omega arith)
      | inr h ↦ omega arith
    ] in
    ap (λ t. cond (not t) (x ∷ without xs c) (without xs c)) (eq-eqb x c same) ∙ filter_none xs c none

times-without : (xs : List ℕ) (c : ℕ) → times (without xs c) c ≡ 0
times-without [] c = times_nil c
times-without (x ∷ xs) c = elim (cases_eq x c) [
  | inl e ↦ ap (λ t. times (cond (not t) (x ∷ without xs c) (without xs c)) c) (eq-eqb x c e) ∙ times-without xs c
  | inr n ↦ ap (λ t. times (cond (not t) (x ∷ without xs c) (without xs c)) c) (ne_eqb x c n) ∙ times_there x (without xs c) c n ∙ times-without xs c
]

-- a cell that was taken out stands in no list
pub left_free : (lists : List (List ℕ)) (l c : ℕ) → count_in lists c ≤ 1 → l < length lists → Contains (list_at lists l) c → IsFree (set lists l (without (list_at lists l) c)) c
left_free lists l c once h stands =
    IsFree_from_count (set lists l (without (list_at lists l) c)) c
    (omega (arith, count_in-set lists l (without (list_at lists l) c) c h, times_from_Contains (list_at lists l) c stands, times-without (list_at lists l) c, times-le-count_in lists l c h))

-- a list has no i-th cell exactly where it ends there
pub first_none : (xs : List ℕ) → (is_some (slice_get xs 0) ≡ false) ↔ (xs ≡ [])
first_none [] = (λ e. refl, λ e. refl)
first_none (x ∷ xs) = (λ e. cc, λ e. cc)

-- no cell follows one exactly where it is the last
pub next_none : (xs : List ℕ) (c : ℕ) (next : Option ℕ) → Contains xs c → ((i : ℕ) → slice_get xs i ≡ Some c → next ≡ slice_get xs (i + 1)) →
    (is_some next ≡ false) ↔ (slice_get xs (length xs - 1) ≡ Some c)
next_none xs c next stands follows = (λ e. last e, λ e. ap is_some (follows (length xs - 1) e ∙ slice_get_past xs (length xs - 1 + 1) (omega arith)))
  where
    last : is_some next ≡ false → slice_get xs (length xs - 1) ≡ Some c
    last e =
        let here = get_from_Contains xs c stands in
        elim (cases_lt (stands.0 + 1) (length xs)) [
          | inl h ↦ let f : is_some (slice_get xs (stands.0 + 1)) ≡ true = ap is_some (slice_get-get_or xs (stands.0 + 1) 0 h) in
              absurd (true≢false (sym f ∙ sym (ap is_some (follows stands.0 here)) ∙ e))
          | inr h ↦ let f : stands.0 ≡ length xs - 1 = omega (arith, stands.1) in subst (λ i. slice_get xs i ≡ Some c) f here
        ]

pub some_of : (o : Option ℕ) → is_some o ≡ true → (y : ℕ) × (o ≡ Some y)
some_of None e = absurd (true≢false (sym e))
some_of (Some y) e = (y, refl)

pub none_of : (o : Option ℕ) → is_some o ≡ false → o ≡ None
none_of None e = refl
none_of (Some y) e = absurd (true≢false e)
