-- Pairs as lists of their two numbers.
use Rattle.std.proofs.Common.{List, [], ◌∷◌, ◌++◌, ℕ, zero, suc, All, Contains, map, length, get_or, take, drop, replicate, ◌≡◌, ◌<◌, ◌≤◌, ◌+◌, ◌*◌, ◌↔◌, ◌⊎◌, inl, inr, refl, sym, ◌∙◌, ap, subst, arith, length-append, add-one}
use Rattle.std.specs.List.{concat}
use Rattle.std.specs.List.Sorted.{IsStrictlyIncreasing}
use Rattle.std.proofs.lemmas.Bool.{cases_lt}
use Rattle.std.proofs.lemmas.List.{get_or-map, length-map, length-replicate, get_or_past, take_all, take-append-le}
use Rattle.std.proofs.lemmas.List.Elements.{All-nil, All-cons}
use Rattle.std.proofs.lemmas.Option.{slice_get-get_or, slice_get_within, get_or_from_slice_get}
use Rattle.list_pool.specs.Pool.{list_at}
use Rattle.list_pool.specs.Counts.{times}
use Rattle.near_lists.specs.Turning.{HasEnd}
use Rattle.near_lists.specs.Owners.{ends_of, owners_below}
use Rattle.near_lists.proofs.Counted.{times-le-length}

-- the two numbers of a pair
abbrev pub at : List (ℕ × ℕ) → ℕ → ℕ × ℕ
at ps k = get_or ps k (0, 0)

pub list_at-ends : (ps : List (ℕ × ℕ)) (k : ℕ) → k < length ps → list_at (map ends_of ps) k ≡ (at ps k).0 ∷ (at ps k).1 ∷ []
list_at-ends ps k h = get_or-map ends_of ps k (0, 0) [] h

pub two : (P : ℕ → Type 0) (a b : ℕ) → P a → P b → All P (a ∷ b ∷ [])
two P a b h k = All-cons P a (b ∷ []) h (All-cons P b [] k (All-nil P))

-- what holds of both numbers of each pair
pub both_all : (P : ℕ → Type 0) (ps : List (ℕ × ℕ)) → All (λ p. P p.0 × P p.1) ps → All (λ row. All P row) (map ends_of ps)
both_all P ps h = λ k d l.
    let l' : k < length ps = omega (arith, length-map ps ends_of) in
    let both = h k (0, 0) l' in
    subst (All P) (sym (get_or-map ends_of ps k (0, 0) d l')) (two P (at ps k).0 (at ps k).1 both.0 both.1)

-- both numbers are below n where the second is, which is greater
pub both_named : (n : ℕ) (ps : List (ℕ × ℕ)) → All (λ p. (p.0 < p.1) × (p.1 < n)) ps → All (λ p. (p.0 < n) × (p.1 < n)) ps
both_named n ps h = λ k d l. let r = h k d l in let a = r.0 in let b = r.1 in (omega arith, b)

pub length-concat_ends : (ps : List (ℕ × ℕ)) → length (concat (map ends_of ps)) ≡ 2 * length ps
length-concat_ends [] = refl
length-concat_ends (p ∷ ps) =
    let r = length-concat_ends ps in
    let l : length (concat (map ends_of (p ∷ ps))) ≡ 2 + length (concat (map ends_of ps)) = length-append (ends_of p) (concat (map ends_of ps)) in
    omega arith

-- one pair more
pub owners_step : (ps : List (ℕ × ℕ)) (n i : ℕ) → i < length ps →
    length (owners_below (map ends_of ps) n (i + 1)) ≡ length (owners_below (map ends_of ps) n i) + times ((at ps i).0 ∷ (at ps i).1 ∷ []) n
owners_step ps n i h =
    let rows = map ends_of ps in
    let step : length (owners_below rows n (suc i)) ≡ length (owners_below rows n i) + times (list_at rows i) n =
    length-append (owners_below rows n i) (replicate (times (list_at rows i) n) i) ∙ ap (λ k. length (owners_below rows n i) + k) (length-replicate (times (list_at rows i) n) i) in
    ap (λ k. length (owners_below rows n k)) (add-one i) ∙ step ∙ ap (λ row. length (owners_below rows n i) + times row n) (list_at-ends ps i h)

-- each pair counts twice at most
pub owners-le : (ps : List (ℕ × ℕ)) (n i : ℕ) → i ≤ length ps → length (owners_below (map ends_of ps) n i) ≤ 2 * i
owners-le ps n zero h = omega arith
owners-le ps n (suc i) h =
    let before = owners-le ps n i (omega arith) in
    let step = owners_step ps n i (omega arith) in
    let row = times-le-length ((at ps i).0 ∷ (at ps i).1 ∷ []) n in
    let e = ap (λ k. length (owners_below (map ends_of ps) n k)) (add-one i) in
    omega arith

-- a pair has exactly its two numbers
pub ends_exact : (ps : List (ℕ × ℕ)) (p n : ℕ) → Contains (list_at (map ends_of ps) p) n ↔ HasEnd ps p n
ends_exact ps p n = ((λ h. there h), (λ h. back h))
  where
    pick : (a b : ℕ) → Contains (a ∷ b ∷ []) n → (a ≡ n) ⊎ (b ≡ n)
    pick a b (zero, l, e) = inl e
    pick a b (suc zero, l, e) = inr e
    pick a b (suc (suc k), l, e) = absurd (omega arith)

    there : Contains (list_at (map ends_of ps) p) n → HasEnd ps p n
    there h = elim (cases_lt p (length ps)) [
      | inl l ↦ ((at ps p).0, (at ps p).1, slice_get-get_or ps p (0, 0) l, pick (at ps p).0 (at ps p).1 (subst (λ row. Contains row n) (list_at-ends ps p l) h))
      | inr past ↦ absurd (let l : h.0 < length (list_at (map ends_of ps) p) = h.1 in
          let none : length (list_at (map ends_of ps) p) ≡ 0 = ap (λ (xs : List ℕ). length xs) (get_or_past (map ends_of ps) p [] (omega (arith, length-map ps ends_of))) in omega arith)
    ]

    back : HasEnd ps p n → Contains (list_at (map ends_of ps) p) n
    back h =
        let l = slice_get_within ps p (h.0, h.1) h.2 in
        let same : at ps p ≡ (h.0, h.1) = get_or_from_slice_get ps p (h.0, h.1) (0, 0) h.2 in
        let row : list_at (map ends_of ps) p ≡ h.0 ∷ h.1 ∷ [] = list_at-ends ps p l ∙ ap ends_of same in
        subst (λ xs. Contains xs n) (sym row) (elim h.3 [ inl e ↦ (0, omega arith, e) | inr e ↦ (1, omega arith, e) ])

-- lists of two numbers that rise rise
pub ends_rise : (m : ℕ) (ps : List (ℕ × ℕ)) → All (λ p. (p.0 < p.1) × (p.1 < m)) ps → All IsStrictlyIncreasing (map ends_of ps)
ends_rise m ps h = λ k d l.
    let l' : k < length ps = omega (arith, length-map ps ends_of) in
    let up = (h k (0, 0) l').0 in
    subst IsStrictlyIncreasing (sym (get_or-map ends_of ps k (0, 0) d l')) (rise (at ps k).0 (at ps k).1 up)
  where
    rise : (a b : ℕ) → a < b → IsStrictlyIncreasing (a ∷ b ∷ [])
    rise a b lt zero j = lt
    rise a b lt (suc i) j = absurd (omega arith)

-- what a slice of a whole list wrote stands in the list
pub written_whole : (old new : List ℕ) (count : ℕ) → length new ≡ length old → count ≡ length old → take count (new ++ drop (length new) old) ≡ new
written_whole old new count long whole =
    take-append-le count new (drop (length new) old) (omega arith) ∙ take_all count new (omega arith)
