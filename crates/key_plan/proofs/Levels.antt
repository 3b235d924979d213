-- Level by level: which slots are reached, and their distances.
use Rattle.std.proofs.Common.{List, replicate, ℕ, zero, suc, Bool, true, false, map, length, take, drop, ◌++◌, slice_index, slice_index_or, ◌≡◌, ◌<◌, ◌≤◌, ◌+◌, ◌-◌, ◌||◌, ◌==◌, inl, inr, sym, ◌∙◌, ap, subst, arith, true≢false}
use Rattle.std.specs.List.{list_any, range_with_len}
use Rattle.std.proofs.lemmas.Bool.{cases_Bool, cases_lt, or_left}
use Rattle.std.proofs.lemmas.List.{get_or_past, get_or-replicate, length-replicate, take-append-le, take_all}
use Rattle.std.proofs.lemmas.List.FromFn.{get_or-map-range_with_len, length-map-range_with_len}
use Rattle.chase_laws.specs.Shape.{Shape, IsRadius, marks, reached, touches}
use Rattle.chase_laws.specs.declared.pattern.Edge.{Edge}
use Rattle.key_plan.specs.Distance.{IsDistance, AreDistances}
use Rattle.key_plan.specs.Making.{AreRaised, IsGreatest}

pub length-marks : (Q : Shape) (n : ℕ) → length (marks Q n) ≡ length Q.slots
length-marks Q zero = length-map-range_with_len (λ s. s == 0) 0 (length Q.slots)
length-marks Q (suc n) = length-map-range_with_len (λ s. slice_index_or (marks Q n) s false || list_any (touches (marks Q n) s) Q.edges) 0 (length Q.slots)

-- what is reached is a slot
pub reached_slot : (Q : Shape) (n s : ℕ) → reached Q n s ≡ true → s < length Q.slots
reached_slot Q n s h = elim (cases_lt s (length Q.slots)) [
  | inl l ↦ l
  | inr past ↦ absurd (true≢false (sym h ∙ get_or_past (marks Q n) s false (let e = length-marks Q n in omega arith)))
]

-- the marks of the next level
pub reached-next : (Q : Shape) (n s : ℕ) → s < length Q.slots → reached Q (suc n) s ≡ (reached Q n s || list_any (touches (marks Q n) s) Q.edges)
reached-next Q n s l = get_or-map-range_with_len (λ s. slice_index_or (marks Q n) s false || list_any (touches (marks Q n) s) Q.edges) 0 (length Q.slots) s s false l (omega arith)

pub reached-zero : (Q : Shape) (s : ℕ) → s < length Q.slots → reached Q 0 s ≡ (s == 0)
reached-zero Q s l = get_or-map-range_with_len (λ s. s == 0) 0 (length Q.slots) s s false l (omega arith)

-- what is reached stays so
reached-more : (Q : Shape) (n s : ℕ) → reached Q n s ≡ true → reached Q (suc n) s ≡ true
reached-more Q n s h = reached-next Q n s (reached_slot Q n s h) ∙ or_left _ _ h

pub reached-later : (Q : Shape) (n k s : ℕ) → reached Q n s ≡ true → reached Q (k + n) s ≡ true
reached-later Q n zero s h = let e : n ≡ 0 + n = omega arith in subst (λ m. reached Q m s ≡ true) e h
reached-later Q n (suc k) s h = let e : suc (k + n) ≡ suc k + n = omega arith in subst (λ m. reached Q m s ≡ true) e (reached-more Q (k + n) s (reached-later Q n k s h))

pub reached_from : (Q : Shape) (n m s : ℕ) → n ≤ m → reached Q n s ≡ true → reached Q m s ≡ true
reached_from Q n m s le h = let e : m - n + n ≡ m = omega arith in subst (λ k. reached Q k s ≡ true) e (reached-later Q n (m - n) s h)

-- the distances after one more level
pub raised : (Q : Shape) (n : ℕ) (marks' : List Bool) (old new : List ℕ) → marks' ≡ marks Q n → AreRaised marks' (n + 1) old new →
    ((s : ℕ) → reached Q n s ≡ true → IsDistance Q s (slice_index old s)) → (s : ℕ) → reached Q (n + 1) s ≡ true → IsDistance Q s (slice_index new s)
raised Q n marks' old new e r before s h = elim (cases_Bool (reached Q n s)) [
  | inl is ↦ subst (IsDistance Q s) (sym (r.marked s (ap (λ xs. slice_index_or xs s false) e ∙ is))) (before s is)
  | inr isn't ↦
      (let far : slice_index new s ≡ n + 1 = r.others s (let l = length-marks Q n in let k = ap length e in let i = reached_slot Q (n + 1) s h in omega arith) (ap (λ xs. slice_index_or xs s false) e ∙ isn't) in
      subst (IsDistance Q s) (sym far) (record {
        within = h;
        least = λ m k. elim (cases_lt n m) [
          | inl l ↦ omega arith
          | inr le ↦ absurd (true≢false (sym (reached_from Q m n s le k) ∙ isn't))
        ];
      }))
]

-- at level 0 slot 0 alone is reached, and its distance is 0
pub none_raised : (Q : Shape) (zeros : List ℕ) → ((s : ℕ) → slice_index zeros s ≡ 0) → (s : ℕ) → reached Q 0 s ≡ true → IsDistance Q s (slice_index zeros s)
none_raised Q zeros all s h = subst (IsDistance Q s) (sym (all s)) (record { within = h; least = λ n k. omega arith })

-- a list that was lent as a slice
pub lent_whole : (n : ℕ) (new old : List ℕ) → length new ≡ length old → length old ≡ n → take n (new ++ drop (length new) old) ≡ new
lent_whole n new old e f =
    let le : n ≤ length new = omega arith in
    take-append-le n new (drop (length new) old) le ∙ take_all n new (omega arith)

pub zeros_at : (n : ℕ) (zeros : List ℕ) → zeros ≡ replicate n 0 → (s : ℕ) → slice_index zeros s ≡ 0
zeros_at n zeros e s = ap (λ xs. slice_index xs s) e ∙ elim (cases_lt s n) [
  | inl l ↦ get_or-replicate n s 0 0 l
  | inr past ↦ get_or_past (replicate n 0) s 0 (let z : ℕ = 0 in let k : length (replicate n z) ≡ n = length-replicate n z in omega (arith, k))
]

-- marks that are made from those of a level are those of the next
pub widened : (Q : Shape) (n : ℕ) (before : List Bool) (edges : List Edge) (wider : List Bool) → before ≡ marks Q n → edges ≡ Q.edges →
    wider ≡ map (λ s. slice_index_or before s false || list_any (touches before s) edges) (range_with_len 0 (length before)) → wider ≡ marks Q (n + 1)
widened Q n before edges wider e f h =
    let long : length before ≡ length Q.slots = ap length e ∙ length-marks Q n in
    let one : suc n ≡ n + 1 = omega arith in
    h ∙ ap (λ m. map (λ s. slice_index_or before s false || list_any (touches before s) edges) (range_with_len 0 m)) long
    ∙ ap (λ (xs : List Bool). map (λ s. slice_index_or xs s false || list_any (touches xs s) edges) (range_with_len 0 (length Q.slots))) e
    ∙ ap (λ (es : List Edge). map (λ s. slice_index_or (marks Q n) s false || list_any (touches (marks Q n) s) es) (range_with_len 0 (length Q.slots))) f
    ∙ ap (marks Q) one

-- the greatest distance is the radius
pub radius_is : (Q : Shape) (ds : List ℕ) (r : ℕ) → AreDistances Q ds → IsGreatest ds r → IsRadius Q r
radius_is Q ds r are most = record {
  within = λ s l. reached_from Q (slice_index ds s) r s (most.within s (omega (arith, are.one_each))) (are.each s l).within;
  least = λ n all. most.least n (λ s h. let l : s < length Q.slots = omega (arith, are.one_each) in (are.each s l).least n (all s l));
}
