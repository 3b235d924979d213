-- The place of a pair among pairs that ascend, as a binary search finds it.
use Rattle.std.proofs.Common.{List, ℕ, false, Result, Ok, Err, Some, Contains, length, get_or, slice_get, ◌≡◌, ◌<◌, ◌+◌, ◌⊎◌, inl, inr, refl, sym, ◌∙◌, ap, ap₂, arith}
use Rattle.std.specs.Ordering.{nat_cmp, ordering_then, is_lt}
use Rattle.std.specs.declared.cmp.Ordering.{Ordering}
use Rattle.std.specs.declared.cmp.Ordering.TheVariants.{Less, Equal, Greater}
use Rattle.std.specs.Cmp.{IsTotalOrder, nat_cmp_is}
use Rattle.std.specs.List.Sorted.{IsSorted, IsSearchInRange, IsBinarySearchResult}
use Rattle.std.proofs.lemmas.Bool.{cases_lt}
use Rattle.std.proofs.lemmas.Cmp.{nat_cmp_total, on_total, then_total, tied_itself, ranked}
use Rattle.std.proofs.lemmas.List.Sorted.{searchable_from_sorted}
use Rattle.std.proofs.lemmas.Option.{slice_get-get_or}
use Rattle.chase_laws.specs.Candidate.{AreAscending}

-- the order of pairs: by the first number, then by the second
abbrev pub pair_cmp : ℕ × ℕ → ℕ × ℕ → Ordering
pair_cmp x y = ordering_then (nat_cmp x.0 y.0) (nat_cmp x.1 y.1)

pairs_total : IsTotalOrder pair_cmp
pairs_total = then_total (on_total (λ (p : ℕ × ℕ). p.0) nat_cmp_total) (on_total (λ (p : ℕ × ℕ). p.1) nat_cmp_total)

-- two pairs that tie are one
both_tie : (a b c d : ℕ) (o u : Ordering) → o ≡ nat_cmp a c → u ≡ nat_cmp b d → ordering_then o u ≡ Equal → (a ≡ c) × (b ≡ d)
both_tie a b c d Equal Equal e f h = (ranked a c Equal e, ranked b d Equal f)
both_tie a b c d Equal Less e f h = absurd (cc)
both_tie a b c d Equal Greater e f h = absurd (cc)
both_tie a b c d Less u e f h = absurd (cc)
both_tie a b c d Greater u e f h = absurd (cc)

tie : (x y : ℕ × ℕ) → pair_cmp x y ≡ Equal → x ≡ y
tie x y h = let e = both_tie x.0 x.1 y.0 y.1 (nat_cmp x.0 y.0) (nat_cmp x.1 y.1) refl refl h in ap₂ (λ (m n : ℕ). (m, n)) e.0 e.1

-- a pair above another is not less
not_less : (x y : ℕ × ℕ) → (x.0 < y.0) ⊎ ((x.0 ≡ y.0) × (x.1 < y.1)) → is_lt (pair_cmp y x) ≡ false
not_less x y (inl above) = sym (ap (λ (o : Ordering). is_lt (ordering_then o (nat_cmp y.1 x.1))) (nat_cmp_is y.0 x.0 Greater above))
not_less x y (inr h) = sym (ap₂ (λ (o u : Ordering). is_lt (ordering_then o u)) (nat_cmp_is y.0 x.0 Equal (sym h.0)) (nat_cmp_is y.1 x.1 Greater h.1))

sorted : (ps : List (ℕ × ℕ)) → AreAscending ps → IsSorted pair_cmp ps
sorted ps up = λ k d low high. not_less (get_or ps k d) (get_or ps (k + 1) d) (up k (k + 1) d (omega arith) high)

-- the search finds a pair that is there
pub found_pair : (ps : List (ℕ × ℕ)) (x : ℕ × ℕ) (r : Result ℕ ℕ) → AreAscending ps → Contains ps x → IsSearchInRange r (length ps) → IsBinarySearchResult (λ y. pair_cmp y x) ps r →
    (i : ℕ) × (r ≡ Ok i) × (i < length ps) × (slice_get ps i ≡ Some x)
found_pair ps x (Ok i) up has range found = (i, refl, range, slice_get-get_or ps i x range ∙ ap Some (tie (get_or ps i x) x (found x)))
found_pair ps x (Err i) up has range found =
    let p = found (searchable_from_sorted pairs_total (λ (y : ℕ × ℕ). y) ps x (sorted ps up)) in
    let equal : pair_cmp (get_or ps has.0 x) x ≡ Equal = ap (λ (y : ℕ × ℕ). pair_cmp y x) has.2 ∙ tied_itself pairs_total x in
    absurd (elim (cases_lt has.0 i) [
      | inl early ↦ (let less = p.0 has.0 x (omega arith) early in let e : Less ≡ Equal = sym less ∙ equal in cc)
      | inr late ↦ (let more = p.1 has.0 x late has.1 in let e : Greater ≡ Equal = sym more ∙ equal in cc)
    ])
