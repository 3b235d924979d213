-- What walks reach, and that as many edges as there are slots are enough.
use Rattle.std.proofs.Common.{List, [], ◌∷◌, ℕ, zero, suc, Bool, true, false, Contains, map, length, get_or, ◌≡◌, ◌<◌, ◌≤◌, ◌+◌, ◌⊎◌, inl, inr, IsTrue, ◌==◌, ◌||◌, ◌↔◌, refl, sym, ◌∙◌, ap, subst, arith, true≢false, eqb-true, eq-eqb}
use Rattle.std.specs.List.{list_any, range_with_len}
use Rattle.std.proofs.lemmas.Bool.{or_cases, or_left, or_right, and_parts, and_from, cases_lt}
use Rattle.std.proofs.lemmas.List.Folds.{Any-from_list_any, list_any_at}
use Rattle.chase_laws.specs.declared.pattern.Edge.{Edge}
use Rattle.chase_laws.specs.Shape.{Shape, marks, touches, reached, AllWithin, AreBeside, Walk, IsConnected}
use Rattle.chase_laws.proofs.Patterns.{marked, length-marks, get_or-map_range}

-- ---- two rows of marks

-- each mark of the one row is one of the other
abbrev Covers : List Bool → List Bool → Type 0
Covers xs ys = (i : ℕ) → get_or xs i false ≡ true → get_or ys i false ≡ true

-- how many marks there are
abbrev marks_of : List Bool → ℕ
marks_of [] = 0
marks_of (true ∷ xs) = 1 + marks_of xs
marks_of (false ∷ xs) = marks_of xs

marks_of-le : (xs : List Bool) → marks_of xs ≤ length xs
marks_of-le [] = omega arith
marks_of-le (true ∷ xs) = let r = marks_of-le xs in omega arith
marks_of-le (false ∷ xs) = let r = marks_of-le xs in omega arith

covers_tail : (x y : Bool) (xs ys : List Bool) → Covers (x ∷ xs) (y ∷ ys) → Covers xs ys
covers_tail x y xs ys c i h = c (suc i) h

-- a row that covers another of its length has as many marks, and where it has no more it is covered too
counted : (xs ys : List Bool) → length xs ≡ length ys → Covers xs ys → (marks_of xs ≤ marks_of ys) × (marks_of ys ≤ marks_of xs → Covers ys xs)
counted [] [] e c = (omega arith, λ le i h. h)
counted [] (y ∷ ys) e c = absurd (omega arith)
counted (x ∷ xs) [] e c = absurd (omega arith)
counted (true ∷ xs) (true ∷ ys) e c =
    let r = counted xs ys (omega arith) (covers_tail true true xs ys c) in
    (omega (arith, r.0), λ le. same (r.1 (omega arith)))
  where
    same : Covers ys xs → Covers (true ∷ ys) (true ∷ xs)
    same k zero h = refl
    same k (suc i) h = k i h
counted (true ∷ xs) (false ∷ ys) e c = absurd (true≢false (sym (c 0 refl)))
counted (false ∷ xs) (true ∷ ys) e c =
    let r = counted xs ys (omega arith) (covers_tail false true xs ys c) in
    (omega (arith, r.0), λ le. absurd (let l = r.0 in omega arith))
counted (false ∷ xs) (false ∷ ys) e c =
    let r = counted xs ys (omega arith) (covers_tail false false xs ys c) in
    (omega (arith, r.0), λ le. same (r.1 (omega arith)))
  where
    same : Covers ys xs → Covers (false ∷ ys) (false ∷ xs)
    same k zero h = h
    same k (suc i) h = k i h

positive : (xs : List Bool) (i : ℕ) → get_or xs i false ≡ true → 0 < marks_of xs
positive [] i h = absurd (true≢false (sym h))
positive (true ∷ xs) i h = omega arith
positive (false ∷ xs) zero h = absurd (true≢false (sym h))
positive (false ∷ xs) (suc i) h = let r = positive xs i h in omega arith

-- ---- the marks of a pattern

-- a slot with a reason has its mark
mark_at : (f : ℕ → Bool) (n s : ℕ) → s < n → f s ≡ true → get_or (map f (range_with_len 0 n)) s false ≡ true
mark_at f n s l h = get_or-map_range f 0 n s false l ∙ ap f (omega arith) ∙ h

module _ (Q : Shape) where
  -- what is marked stays marked
  marked_on : (n s : ℕ) → IsTrue (reached Q n s) → IsTrue (reached Q (suc n) s)
  marked_on n s h =
      let l : s < length Q.slots = within n s h in
      mark_at (λ i. reached Q n i || list_any (touches (marks Q n) i) Q.edges) (length Q.slots) s l (or_left _ _ h)
    where
      within : (k i : ℕ) → IsTrue (reached Q k i) → i < length Q.slots
      within zero i h = (marked (λ j. j == 0) (length Q.slots) i h).0
      within (suc k) i h = (marked (λ j. reached Q k j || list_any (touches (marks Q k) j) Q.edges) (length Q.slots) i h).0

  pub reached_later : (m n s : ℕ) → m ≤ n → IsTrue (reached Q m s) → IsTrue (reached Q n s)
  reached_later m zero s le h = subst (λ k. IsTrue (reached Q k s)) (let e : m ≡ 0 = omega arith in e) h
  reached_later m (suc n) s le h = elim (at_most m n le) [
    | inl l ↦ marked_on n s (reached_later m n s l h)
    | inr e ↦ subst (λ k. IsTrue (reached Q k s)) e h
  ]
    where
      at_most : (m n : ℕ) → m ≤ suc n → (m ≤ n) ⊎ (m ≡ suc n)
      at_most zero n le = inl (omega arith)
      at_most (suc m) zero le = inr (omega arith)
      at_most (suc m) (suc n) le = elim (at_most m n (omega arith)) [ inl l ↦ inl (omega arith) | inr e ↦ inr (ap suc e) ]

  -- an edge from a marked slot marks the other end
  beside_marked : (n r s : ℕ) → s < length Q.slots → AreBeside Q r s → IsTrue (reached Q n r) → IsTrue (reached Q (suc n) s)
  beside_marked n r s l b h =
      mark_at (λ i. reached Q n i || list_any (touches (marks Q n) i) Q.edges) (length Q.slots) s l
      (or_right _ _ (list_any_at (touches (marks Q n) s) Q.edges b.1.0 b.0 b.1.1 (subst (λ (e : Edge). touches (marks Q n) s e ≡ true) (sym b.1.2) (touched b.0 b.2))))
    where
      touched : (e : Edge) → ((e.from ≡ r) × (e.to ≡ s)) ⊎ ((e.from ≡ s) × (e.to ≡ r)) → touches (marks Q n) s e ≡ true
      touched e x = elim x [
        | inl k ↦ or_left _ _ (and_from _ _ (eq-eqb e.to s k.1) (subst (λ i. IsTrue (reached Q n i)) (sym k.0) h))
        | inr k ↦ or_right _ _ (and_from _ _ (eq-eqb e.from s k.0) (subst (λ i. IsTrue (reached Q n i)) (sym k.1) h))
      ]

  pub walked_reached : (n s : ℕ) → Walk Q n s → IsTrue (reached Q n s)
  walked_reached zero s w = mark_at (λ i. i == 0) (length Q.slots) s w.0 (eq-eqb s 0 w.1)
  walked_reached (suc n) s w = beside_marked n w.1.0 s w.0 w.1.2 (walked_reached n w.1.0 w.1.1)

  pub reached_walked : (n s : ℕ) → IsTrue (reached Q n s) → (m : ℕ) × (m ≤ n) × Walk Q m s
  reached_walked zero s h =
      let k = marked (λ i. i == 0) (length Q.slots) s h in
      (0, omega arith, (k.0, eqb-true s 0 k.1))
  reached_walked (suc n) s h =
      let k = marked (λ i. reached Q n i || list_any (touches (marks Q n) i) Q.edges) (length Q.slots) s h in
      elim (or_cases _ _ k.1) [
        | inl x ↦ (let w = reached_walked n s x in (w.0, omega (arith, w.1), w.2))
        | inr x ↦
            (let a = Any-from_list_any (touches (marks Q n) s) Q.edges x in
            elim (or_cases _ _ a.4) [
              | inl y ↦ (let p = and_parts _ _ y in on n s k.0 a.1 (a.0, a.2, a.3) a.1.from (reached_walked n a.1.from p.1) (inl (refl, eqb-true a.1.to s p.0)))
              | inr y ↦ (let p = and_parts _ _ y in on n s k.0 a.1 (a.0, a.2, a.3) a.1.to (reached_walked n a.1.to p.1) (inr (eqb-true a.1.from s p.0, refl)))
            ])
      ]
    where
      on : (n s : ℕ) → s < length Q.slots → (e : Edge) → Contains Q.edges e → (r : ℕ) → ((m : ℕ) × (m ≤ n) × Walk Q m r) →
          ((e.from ≡ r) × (e.to ≡ s)) ⊎ ((e.from ≡ s) × (e.to ≡ r)) → (m : ℕ) × (m ≤ suc n) × Walk Q m s
      on n s l e here r w ends = (suc w.0, omega (arith, w.1), (l, (r, w.2, (e, here, ends))))

  -- ---- as many edges as there are slots are enough

  abbrev Stays : ℕ → Type 0
  Stays n = (s : ℕ) → IsTrue (reached Q (suc n) s) → IsTrue (reached Q n s)

  -- what stays for one edge more, stays for all more
  stays_on : (n : ℕ) → Stays n → (m s : ℕ) → Walk Q m s → IsTrue (reached Q n s)
  stays_on n stays zero s w = reached_later 0 n s (omega arith) (walked_reached 0 s w)
  stays_on n stays (suc m) s w = stays s (beside_marked n w.1.0 s w.0 w.1.2 (stays_on n stays m w.1.0 w.1.1))

  count : ℕ → ℕ
  count n = marks_of (marks Q n)

  grows : (n : ℕ) → (count n ≤ count (suc n)) × (count (suc n) ≤ count n → Stays n)
  unfolding count
  grows n = counted (marks Q n) (marks Q (suc n)) (length-marks Q n ∙ sym (length-marks Q (suc n))) (λ i. marked_on n i)

  -- after n edges a smaller number of edges stayed, or more than n slots are marked
  stays_or_more : (n : ℕ) → 0 < length Q.slots → ((k : ℕ) × (k < n) × Stays k) ⊎ (n < count n)
  stays_or_more zero some = inr (unfold count in positive (marks Q 0) 0 (walked_reached 0 0 (some, refl)))
  stays_or_more (suc n) some = elim (stays_or_more n some) [
    | inl k ↦ inl (k.0, omega (arith, k.1), k.2)
    | inr more ↦ elim (cases_lt (count n) (count (suc n))) [
      | inl lt ↦ inr (omega arith)
      | inr ge ↦ inl (n, omega arith, (grows n).1 (omega (arith, ge)))
    ]
  ]

  count-le : (n : ℕ) → count n ≤ length Q.slots
  unfolding count
  count-le n = let e = length-marks Q n in let l = marks_of-le (marks Q n) in omega arith

  some_slot : (n s : ℕ) → Walk Q n s → s < length Q.slots
  some_slot zero s w = w.0
  some_slot (suc n) s w = w.0

  pub enough : (n s : ℕ) → Walk Q n s → IsTrue (reached Q (length Q.slots) s)
  enough n s w = elim (stays_or_more (length Q.slots) (let l = some_slot n s w in omega arith)) [
    | inl k ↦ reached_later k.0 (length Q.slots) s (omega (arith, k.1)) (stays_on k.0 k.2 n s w)
    | inr more ↦ absurd (let le = count-le (length Q.slots) in omega arith)
  ]

pub connected : (Q : Shape) → IsConnected Q ↔ AllWithin Q (length Q.slots)
connected Q = (
  (λ h s l. let w = h s l in enough Q w.0 s w.1),
  (λ h s l. let w = reached_walked Q (length Q.slots) s (h s l) in (w.0, w.2)),
)
