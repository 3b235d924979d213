-- What stands in a list that was cut, joined or filtered, and in the list of the first numbers.
use Rattle.std.proofs.Common.{List, [], ◌∷◌, ◌++◌, ℕ, zero, suc, Bool, true, false, Contains, AllPairs, filter, length, get_or, ◌≡◌, ◌≢◌, ◌<◌, ◌+◌, ◌⊎◌, ◌↔◌, inl, inr, refl, sym, ◌∙◌, ap, subst, ◌-◌, arith, length-append}
use Rattle.std.specs.List.{range_with_len}
use Rattle.std.proofs.lemmas.Bool.{cases_Bool, cases_lt, cond-true, cond-false}
use Rattle.std.proofs.lemmas.List.{get_or_append_left, get_or-append_right}
use Rattle.std.proofs.lemmas.List.Elements.{All-contains, All-contains_itself, All-filter, filter_passes}
use Rattle.std.proofs.lemmas.List.FromFn.{length-range_with_len, get_or-range_with_len}

pub Contains-head : {X : Type 0} (x : X) (xs : List X) → Contains (x ∷ xs) x
Contains-head x xs = (0, omega arith, refl)

pub Contains-tail : {X : Type 0} (y : X) (xs : List X) (x : X) → Contains xs x → Contains (y ∷ xs) x
Contains-tail y xs x h = (suc h.0, omega (arith, h.1), h.2)

pub Contains-cons_cases : {X : Type 0} (y : X) (xs : List X) (x : X) → Contains (y ∷ xs) x → (y ≡ x) ⊎ Contains xs x
Contains-cons_cases {X} y xs x h = go h.0 h.1 h.2
  where
    go : (k : ℕ) → k < length (y ∷ xs) → get_or (y ∷ xs) k x ≡ x → (y ≡ x) ⊎ Contains xs x
    go zero lt e = inl e
    go (suc k) lt e = inr (k, omega arith, e)

pub Contains-nil : {X : Type 0} (x : X) → Contains [] x → ⊥
Contains-nil x h = omega (arith, h.1)

-- what passes a test
pub Contains-filter : {X : Type 0} (p : X → Bool) (xs : List X) (x : X) → Contains (filter p xs) x → Contains xs x × (p x ≡ true)
Contains-filter p xs x h = (
  All-contains (Contains xs) (filter p xs) x (All-filter p (Contains xs) xs (All-contains_itself xs)) h,
  All-contains (λ y. p y ≡ true) (filter p xs) x (filter_passes p xs) h,
)

pub filter-Contains : {X : Type 0} (p : X → Bool) (xs : List X) (x : X) → Contains xs x → p x ≡ true → Contains (filter p xs) x
filter-Contains p [] x h t = absurd (Contains-nil x h)
filter-Contains {X} p (y ∷ ys) x h t = elim (cases_Bool (p y)) [
  | inl u ↦ subst (λ zs. Contains zs x) (sym (cond-true (p y) (y ∷ filter p ys) (filter p ys) u)) (elim (Contains-cons_cases y ys x h) [
    | inl e ↦ (0, omega arith, e)
    | inr k ↦ Contains-tail y (filter p ys) x (filter-Contains p ys x k t)
  ])
  | inr f ↦ subst (λ zs. Contains zs x) (sym (cond-false (p y) (y ∷ filter p ys) (filter p ys) f)) (elim (Contains-cons_cases y ys x h) [
    | inl e ↦ absurd (let g : p x ≡ false = ap p (sym e) ∙ f in cc)
    | inr k ↦ filter-Contains p ys x k t
  ])
]

-- a filter that passes all
pub filter_whole : {X : Type 0} (p : X → Bool) (xs : List X) → ((x : X) → Contains xs x → p x ≡ true) → filter p xs ≡ xs
filter_whole p [] all = refl
filter_whole p (y ∷ ys) all =
    cond-true (p y) (y ∷ filter p ys) (filter p ys) (all y (Contains-head y ys)) ∙ ap (λ zs. y ∷ zs) (filter_whole p ys (λ x h. all x (Contains-tail y ys x h)))

-- ---- the numbers from a first one on

pub range_push : (k n m : ℕ) → m ≡ k + n → range_with_len k (suc n) ≡ range_with_len k n ++ m ∷ []
range_push k zero m e = ap (λ i. i ∷ []) (omega arith)
range_push k (suc n) m e = ap (λ ns. k ∷ ns) (range_push (k + 1) n m (omega arith))

pub Contains-range : (n p : ℕ) → Contains (range_with_len 0 n) p ↔ (p < n)
Contains-range n p = (
  (λ h. let k : h.0 < n = subst (λ m. h.0 < m) (length-range_with_len 0 n) h.1 in let e = get_or-range_with_len 0 n h.0 p k in let f = h.2 in omega arith),
  (λ h. (p, rw length-range_with_len h, get_or-range_with_len 0 n p p h ∙ omega arith)),
)

pub AllPairs-range : (n : ℕ) → AllPairs (λ a b. a ≢ b) (range_with_len 0 n)
AllPairs-range n i j d lt h e =
    let k : j < n = subst (λ m. j < m) (length-range_with_len 0 n) h in
    absurd (omega (arith, get_or-range_with_len 0 n i d (omega arith), get_or-range_with_len 0 n j d k, e))

-- ---- a relation of each element with each later one

pub all_pairs_append : {X : Type 0} (R : X → X → Type 0) (xs ys : List X) → AllPairs R xs → AllPairs R ys →
    ((i j : ℕ) (d : X) → i < length xs → j < length ys → R (get_or xs i d) (get_or ys j d)) → AllPairs R (xs ++ ys)
all_pairs_append R xs ys left right across i j d lt h = elim (cases_lt j (length xs)) [
  | inl k ↦ rw (get_or_append_left xs ys d i (omega arith), get_or_append_left xs ys d j k) (left i j d lt k)
  | inr k ↦ elim (cases_lt i (length xs)) [
    | inl m ↦ rw (get_or_append_left xs ys d i m, get_or-append_right xs ys (length xs) j d refl k) (across i (j - length xs) d m (omega (arith, length-append xs ys)))
    | inr m ↦ rw (get_or-append_right xs ys (length xs) i d refl m, get_or-append_right xs ys (length xs) j d refl k) (right (i - length xs) (j - length xs) d (omega arith) (omega (arith, length-append xs ys)))
  ]
]
