-- Each node alone, and what a walk over members needs.
use Rattle.std.proofs.Common.{List, [], ◌∷◌, ℕ, suc, zero, cond, length, get_or, replicate, Contains, ◌≡◌, ◌≢◌, ◌<◌, ◌^◌, ◌==◌, inl, inr, refl, ap, sym, ◌∙◌, arith, eq-eqb, ne_eqb}
use Rattle.std.proofs.lemmas.Bool.{cases_eq}
use Rattle.std.proofs.lemmas.List.{get_or-replicate, length-replicate}
use Rattle.std.proofs.lemmas.List.Sums.{sum_by-cons}
use Rattle.list_pool.specs.Counts.{times}
use Rattle.list_pool.specs.Pool.{list_at}
use Rattle.list_pool.proofs.CallerLemmas.{times_nil, times_here, times_there, times_from_Contains}
use Rattle.class_book.specs.Classes.{size_of}
use Rattle.class_book.specs.Roster.{IsRoster}
use Rattle.class_book.proofs.Merging.{bit}

pub in_one : (x c : ℕ) → Contains (x ∷ []) c → x ≡ c
in_one x c stands = elim (cases_eq x c) [
  | inl e ↦ e
  | inr n ↦ absurd (omega (arith, times_from_Contains (x ∷ []) c stands, times_there x [] c n, times_nil c))
]

pub in_none : (c : ℕ) → Contains [] c → ⊥
in_none c stands = omega (arith, times_from_Contains [] c stands, times_nil c)

size_none : (xs : List ℕ) (c : ℕ) → ((k : ℕ) → k < length xs → get_or xs k 0 ≢ c) → size_of xs c ≡ 0
size_none [] c h = refl
size_none (x ∷ xs) c h =
    let e : bit (x == c) ≡ 0 = ap bit (ne_eqb x c (h 0 (omega arith))) in
    let k = size_none xs c (λ k j. h (suc k) (omega arith)) in
    omega (arith, sum_by-cons (λ y. cond (y == c) 1 0) x xs)

size_one : (xs : List ℕ) (l c : ℕ) → l < length xs → get_or xs l 0 ≡ c → ((k : ℕ) → k < length xs → k ≢ l → get_or xs k 0 ≢ c) → size_of xs c ≡ 1
size_one [] l c h e n = absurd (omega arith)
size_one (x ∷ xs) zero c h e n =
    let f : bit (x == c) ≡ 1 = ap bit (eq-eqb x c e) in
    let k = size_none xs c (λ k j. n (suc k) (omega arith) (λ g. absurd (omega arith))) in
    omega (arith, sum_by-cons (λ y. cond (y == c) 1 0) x xs)
size_one (x ∷ xs) (suc l) c h e n =
    let f : bit (x == c) ≡ 0 = ap bit (ne_eqb x c (n 0 (omega arith) (λ g. absurd (omega arith)))) in
    let k = size_one xs l c (omega arith) e (λ k j m. n (suc k) (omega arith) (λ g. m (omega arith))) in
    omega (arith, sum_by-cons (λ y. cond (y == c) 1 0) x xs)

pub alone_roster : (n : ℕ) (labels : List ℕ) (members : List (List ℕ)) → n < 2 ^ 32 → length labels ≡ n → ((k : ℕ) → k < n → get_or labels k 0 ≡ k) →
    length members ≡ n → ((k : ℕ) → k < n → list_at members k ≡ k ∷ []) → IsRoster labels (replicate n 1) members
alone_roster n labels members few count own count' own' = record {
  list_count = count' ∙ sym count;
  size_count = length-replicate n 1 ∙ sym count;
  stands = λ l k h j. rw (own' l (omega arith), own k (omega arith)) (elim (cases_eq l k) [
    | inl e ↦ ap (times (l ∷ [])) (sym e) ∙ times_here l [] ∙ (let z = times_nil l in let f : bit (k == l) ≡ 1 = ap bit (eq-eqb k l (sym e)) in omega arith)
    | inr m ↦ times_there l [] k m ∙ times_nil k ∙ sym (ap bit (ne_eqb k l (λ f. m (sym f))))
  ]);
  nodes = λ l k h j. rw (own' l (omega arith)) (times_there l [] k (λ e. absurd (omega arith)) ∙ times_nil k);
  counts = λ l h. get_or-replicate n l 1 0 (omega arith) ∙ sym (size_one labels l l h (own l (omega arith)) (λ k j m e. m (sym (own k (omega arith)) ∙ e)));
  lengths = λ l h. get_or-replicate n l 1 0 (omega arith) ∙ sym (ap (λ (xs : List ℕ). length xs) (own' l (omega arith)));
  few = omega arith;
}
