-- How often a cell stands in a list.
use Rattle.std.proofs.Common.{List, [], ◌∷◌, ◌++◌, ℕ, not, cond, length, filter, ◌≡◌, ◌≢◌, ◌<◌, ◌≤◌, ◌+◌, ◌==◌, inl, inr, refl, ap, sym, ◌∙◌, arith, eq-eqb, ne_eqb, set}
use Rattle.std.proofs.lemmas.List.Sums.{sum_by-cons, sum_by-append, sum_by-set, get_or-le-sum_by}
use Rattle.std.proofs.lemmas.Bool.{cases_eq}
use Rattle.list_pool.specs.Counts.{times, count_in}
use Rattle.list_pool.specs.Pool.{list_at}

pub times_nil : (c : ℕ) → times [] c ≡ 0
unfolding times
times_nil c = refl

pub times-cons : (x : ℕ) (xs : List ℕ) (c : ℕ) → times (x ∷ xs) c ≡ cond (x == c) 1 0 + times xs c
unfolding times
times-cons x xs c = sum_by-cons (λ y. cond (y == c) 1 0) x xs

pub times-append : (xs ys : List ℕ) (c : ℕ) → times (xs ++ ys) c ≡ times xs c + times ys c
unfolding times
times-append xs ys c = sum_by-append (λ y. cond (y == c) 1 0) xs ys

pub times_here : (x : ℕ) (xs : List ℕ) → times (x ∷ xs) x ≡ 1 + times xs x
times_here x xs = times-cons x xs x ∙ ap (λ t. cond t 1 0 + times xs x) (eq-eqb x x refl)

pub times_there : (x : ℕ) (xs : List ℕ) (c : ℕ) → x ≢ c → times (x ∷ xs) c ≡ times xs c
times_there x xs c h =
    let e = times-cons x xs c ∙ ap (λ t. cond t 1 0 + times xs c) (ne_eqb x c h) in
    omega arith

pub times_more : (x : ℕ) (xs : List ℕ) (c : ℕ) → times xs c ≤ times (x ∷ xs) c
times_more x xs c = omega (arith, times-cons x xs c)

pub count_in-set : (lists : List (List ℕ)) (l : ℕ) (ys : List ℕ) (c : ℕ) → l < length lists → count_in (set lists l ys) c + times (list_at lists l) c ≡ count_in lists c + times ys c
unfolding count_in
count_in-set lists l ys c h = sum_by-set (λ xs. times xs c) lists l ys [] h

pub count_in-cons : (xs : List ℕ) (lists : List (List ℕ)) (c : ℕ) → count_in (xs ∷ lists) c ≡ times xs c + count_in lists c
unfolding count_in
count_in-cons xs lists c = sum_by-cons (λ ys. times ys c) xs lists

pub times-le-count_in : (lists : List (List ℕ)) (l c : ℕ) → l < length lists → times (list_at lists l) c ≤ count_in lists c
unfolding count_in
times-le-count_in lists l c h = get_or-le-sum_by (λ xs. times xs c) lists l [] h

-- a list round a cell that stands in it
pub split_at : (xs : List ℕ) (c : ℕ) → 0 < times xs c → (ys : List ℕ) × (zs : List ℕ) × (xs ≡ ys ++ c ∷ zs)
split_at [] c h = absurd (omega (arith, times_nil c))
split_at (x ∷ xs) c h = elim (cases_eq x c) [
  | inl e ↦ ([], xs, ap (λ y. y ∷ xs) e)
  | inr n ↦ let k : 0 < times xs c = omega (arith, times_there x xs c n) in let r = split_at xs c k in (x ∷ r.0, r.1, ap (λ ys. x ∷ ys) r.2)
]

-- a list without a cell that does not stand in it
pub filter_none : (xs : List ℕ) (c : ℕ) → times xs c ≡ 0 → filter (λ x. not (x == c)) xs ≡ xs
filter_none [] c h = refl
filter_none (x ∷ xs) c h = elim (cases_eq x c) [
  | inl e ↦ let k : times (x ∷ xs) x ≡ 0 = ap (times (x ∷ xs)) e ∙ h in absurd (omega (arith, times_here x xs))
  | inr n ↦ let k : times xs c ≡ 0 = sym (times_there x xs c n) ∙ h in
      ap (λ t. cond (not t) (x ∷ filter (λ x. not (x == c)) xs) (filter (λ x. not (x == c)) xs)) (ne_eqb x c n) ∙ ap (λ ys. x ∷ ys) (filter_none xs c k)
]
