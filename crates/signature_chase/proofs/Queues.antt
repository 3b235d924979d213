-- One list of a pool.
use Rattle.std.proofs.Common.{List, [], ◌∷◌, ◌++◌, ℕ, zero, suc, Option, Some, None, Contains, MatchOption, slice_get, length, get_or, drop, ◌≡◌, ◌≢◌, ◌<◌, ◌≤◌, ◌+◌, ◌⊎◌, ◌↔◌, inl, inr, refl, sym, ◌∙◌, ap, subst, arith}
use Rattle.std.specs.List.{range_with_len}
use Rattle.std.specs.List.{sum_by}
use Rattle.std.proofs.lemmas.Bool.{cases_eq}
use Rattle.std.proofs.lemmas.List.Sums.{sum_by-cons}
use Rattle.std.specs.Prelude.{IfSome}
use Rattle.list_pool.specs.Pool.{list_at, IsFree, AreInRange}

-- a cell that is not in the only list is free
pub only_list : (lists : List (List ℕ)) (cell : ℕ) → length lists ≡ 1 → ¬ (Contains (list_at lists 0) cell) → IsFree lists cell
only_list lists cell one not list h = let e : 0 ≡ list = omega arith in subst (λ l. ¬ (Contains (list_at lists l) cell)) e not

pub range_push : (k n m : ℕ) → m ≡ k + n → range_with_len k (suc n) ≡ range_with_len k n ++ m ∷ []
range_push k zero m e = ap (λ i. i ∷ []) (omega arith)
range_push k (suc n) m e = ap (λ ns. k ∷ ns) (range_push (k + 1) n m (omega arith))

pub get_or-range : (k n m d : ℕ) → m < n → get_or (range_with_len k n) m d ≡ k + m
get_or-range k zero m d h = absurd (omega arith)
get_or-range k (suc n) zero d h = omega arith
get_or-range k (suc n) (suc m) d h = get_or-range (k + 1) n m d (omega arith) ∙ omega arith

pub length-range : (k n : ℕ) → length (range_with_len k n) ≡ n
length-range k zero = refl
length-range k (suc n) = ap suc (length-range (k + 1) n)

pub below-range : (n p : ℕ) → Contains (range_with_len 0 n) p → p < n
below-range n p h = let k : h.0 < n = subst (λ m. h.0 < m) (length-range 0 n) h.1 in let e = get_or-range 0 n h.0 p k in let f = h.2 in omega arith

pub Contains-range : (n p : ℕ) → p < n → Contains (range_with_len 0 n) p
Contains-range n p h = (p, rw length-range h, get_or-range 0 n p p h ∙ omega arith)

-- what is taken from the front
pub front_taken : (xs : List ℕ) (r : Option ℕ) → r ≡ slice_get xs 0 → MatchOption r (xs ≡ []) (λ g. xs ≡ g ∷ drop 1 xs)
front_taken xs r e = subst (λ o. MatchOption o (xs ≡ []) (λ g. xs ≡ g ∷ drop 1 xs)) (sym e) (go xs)
  where
    go : (ys : List ℕ) → MatchOption (slice_get ys 0) (ys ≡ []) (λ g. ys ≡ g ∷ drop 1 ys)
    go [] = refl
    go (y ∷ ys) = refl

-- a number stands in a list or does not
pub stands_or_not : (xs : List ℕ) (x : ℕ) → Contains xs x ⊎ ¬ (Contains xs x)
stands_or_not [] x = inr (λ h. omega (arith, h.1))
stands_or_not (y ∷ ys) x = elim (cases_eq y x) [
  | inl e ↦ inl (0, omega arith, e)
  | inr d ↦ elim (stands_or_not ys x) [
    | inl h ↦ inl (suc h.0, omega (arith, h.1), h.2)
    | inr n ↦ inr (λ h. later h.0 h.1 h.2 d n)
  ]
]
  where
    later : (k : ℕ) → k < length (y ∷ ys) → get_or (y ∷ ys) k x ≡ x → (y ≡ x → ⊥) → (Contains ys x → ⊥) → ⊥
    later zero lt e d n = d e
    later (suc k) lt e d n = n (k, omega arith, e)

-- all that stand in lists are at least those of the first
pub length-le-first : (lists : List (List ℕ)) → length (list_at lists 0) ≤ sum_by length lists
length-le-first [] = omega arith
length-le-first (xs ∷ lists) = let e : sum_by length (xs ∷ lists) ≡ length xs + sum_by length lists = sum_by-cons length xs lists in omega arith

-- the first of the only list is one of the cells
pub first_in : (lists : List (List ℕ)) (cells : ℕ) (r : Option ℕ) → r ≡ slice_get (list_at lists 0) 0 → AreInRange lists cells → IfSome r (λ g. g < cells)
first_in lists cells r e range = subst (λ o. IfSome o (λ g. g < cells)) (sym e) (go (list_at lists 0) (λ cell h. range 0 cell h))
  where
    go : (xs : List ℕ) → ((cell : ℕ) → Contains xs cell → cell < cells) → IfSome (slice_get xs 0) (λ g. g < cells)
    go [] all = tt
    go (x ∷ xs) all = all x (0, omega arith, refl)
