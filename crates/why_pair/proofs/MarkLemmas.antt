-- Marks of the entries that are needed.
use Rattle.std.proofs.Common.{List, [], ◌∷◌, ℕ, zero, suc, ◌+◌, ◌<◌, ◌≤◌, Bool, true, false, Some, All, Contains, length, slice_get, slice_set, replicate, ◌≡◌, ◌⊎◌, inl, inr, refl, sym, ap, subst, ◌∙◌, arith}
use Rattle.std.proofs.lemmas.Bool.{cases_lt}
use Rattle.std.proofs.lemmas.List.Elements.{All-head, All-tail}
use Rattle.chase_laws.specs.declared.entry.Entry.{Entry}
use Rattle.chase_laws.specs.Shape.{Shape}
use Rattle.chase_laws.proofs.CallerLemmas.{Contains-from_slice_get, slice_get-from_Contains}
use Rattle.proof_graph.specs.Built.{pattern_at}
use Rattle.why_pair.specs.Kept.{IsMarkedAt}
use Rattle.why_pair.specs.Needed.{needs_of, in_goal, by_entry}
use Rattle.why_pair.specs.Marking.{with_marks, MarksFrom}

set_stays : (marks : List Bool) (i p : ℕ) → IsMarkedAt marks p → IsMarkedAt (slice_set marks i true) p
set_stays [] i p h = absurd cc
set_stays (m ∷ marks) zero zero h = refl
set_stays (m ∷ marks) zero (suc p) h = h
set_stays (m ∷ marks) (suc i) zero h = h
set_stays (m ∷ marks) (suc i) (suc p) h = set_stays marks i p h

set_here : (marks : List Bool) (i : ℕ) → i < length marks → IsMarkedAt (slice_set marks i true) i
set_here [] i l = absurd (omega arith)
set_here (m ∷ marks) zero l = refl
set_here (m ∷ marks) (suc i) l = set_here marks i (omega arith)

set_only : (marks : List Bool) (i p : ℕ) → IsMarkedAt (slice_set marks i true) p → (p ≡ i) ⊎ IsMarkedAt marks p
set_only [] i p h = inr h
set_only (m ∷ marks) zero zero h = inl refl
set_only (m ∷ marks) zero (suc p) h = inr h
set_only (m ∷ marks) (suc i) zero h = inr h
set_only (m ∷ marks) (suc i) (suc p) h = elim (set_only marks i p h) [ inl e ↦ inl (ap suc e) | inr k ↦ inr k ]

length-set_mark : (marks : List Bool) (i : ℕ) → length (slice_set marks i true) ≡ length marks
length-set_mark [] i = refl
length-set_mark (m ∷ marks) zero = refl
length-set_mark (m ∷ marks) (suc i) = ap suc (length-set_mark marks i)

pub length-with_marks : (marks : List Bool) (places : List ℕ) → length (with_marks marks places) ≡ length marks
length-with_marks marks [] = refl
length-with_marks marks (p ∷ places) = length-with_marks (slice_set marks p true) places ∙ length-set_mark marks p

pub marks_stay : (marks : List Bool) (places : List ℕ) (p : ℕ) → IsMarkedAt marks p → IsMarkedAt (with_marks marks places) p
marks_stay marks [] p h = h
marks_stay marks (q ∷ places) p h = marks_stay (slice_set marks q true) places p (set_stays marks q p h)

marks_at : (marks : List Bool) (places : List ℕ) (k p : ℕ) → All (λ q. q < length marks) places → slice_get places k ≡ Some p → IsMarkedAt (with_marks marks places) p
marks_at marks [] k p inside at = absurd cc
marks_at marks (q ∷ places) zero p inside at =
    let same : q ≡ p = cc in
    marks_stay (slice_set marks q true) places p (subst (IsMarkedAt (slice_set marks q true)) same (set_here marks q (All-head (λ r. r < length marks) q places inside)))
marks_at marks (q ∷ places) (suc k) p inside at =
    marks_at (slice_set marks q true) places k p
    (subst (λ n. All (λ r. r < n) places) (sym (length-set_mark marks q)) (All-tail (λ r. r < length marks) q places inside)) at

pub marks_put : (marks : List Bool) (places : List ℕ) (p : ℕ) → All (λ q. q < length marks) places → Contains places p → IsMarkedAt (with_marks marks places) p
marks_put marks places p inside h = let r = slice_get-from_Contains places p h in marks_at marks places r.0 p inside r.1

pub marks_only : (marks : List Bool) (places : List ℕ) (p : ℕ) → IsMarkedAt (with_marks marks places) p → IsMarkedAt marks p ⊎ Contains places p
marks_only marks [] p h = inl h
marks_only marks (q ∷ places) p h = elim (marks_only (slice_set marks q true) places p h) [
  | inl k ↦ elim (set_only marks q p k) [
    | inl e ↦ inr (Contains-from_slice_get (q ∷ places) 0 p (ap Some (sym e)))
    | inr m ↦ inl m
  ]
  | inr c ↦ let r = slice_get-from_Contains places p c in inr (Contains-from_slice_get (q ∷ places) (suc r.0) p r.1)
]

no_marks : (n p : ℕ) → IsMarkedAt (replicate n false) p → ⊥
no_marks zero p h = cc
no_marks (suc n) zero h = cc
no_marks (suc n) (suc p) h = no_marks n p h

-- the goal's places alone
pub goal_marks : (K : List Shape) (H : List Entry) (goal : List ℕ) (marks : List Bool) → marks ≡ replicate (length H) false → length marks ≡ length H → All (λ p. p < length H) goal → MarksFrom K H goal (length H) (with_marks marks goal)
goal_marks K H goal marks none count inside = record {
  count = length-with_marks marks goal ∙ count;
  goal_marked = λ p h. marks_put marks goal p (subst (λ n. All (λ q. q < n) goal) (sym count) inside) h;
  closed = λ p q e past at marked need. absurd (beyond H q e past at);
  only = λ p h. elim (marks_only marks goal p h) [
    | inl k ↦ absurd (no_marks (length H) p (subst (λ m. IsMarkedAt m p) none k))
    | inr c ↦ in_goal c
  ];
}
  where
    beyond : (H : List Entry) (q : ℕ) (e : Entry) → length H ≤ q → slice_get H q ≡ Some e → ⊥
    beyond [] q e l at = cc
    beyond (f ∷ H) zero e l at = omega arith
    beyond (f ∷ H) (suc q) e l at = beyond H q e (omega arith) at

-- one entry more, which is marked
pub more_marks : (K : List Shape) (H : List Entry) (goal : List ℕ) (at : ℕ) (e : Entry) (marks : List Bool) (places : List ℕ) → slice_get H at ≡ Some e → IsMarkedAt marks at →
    places ≡ needs_of H (pattern_at K e.key).slots e → ((p : ℕ) → Contains places p → p < at) → All (λ q. q < length marks) places →
    MarksFrom K H goal (at + 1) marks → MarksFrom K H goal at (with_marks marks places)
more_marks K H goal at e marks places here marked are below inside m = record {
  count = length-with_marks marks places ∙ m.count;
  goal_marked = λ p h. marks_stay marks places p (m.goal_marked p h);
  closed = λ p q f past there is need. elim (marks_only marks places q is) [
    | inl old ↦ elim (cases_lt at q) [
      | inl later ↦ marks_stay marks places p (m.closed p q f (omega arith) there old need)
      | inr now ↦ (let same : q ≡ at = omega arith in
          let one : f ≡ e = (let two : Some f ≡ Some e = sym there ∙ ap (slice_get H) same ∙ here in cc) in
          marks_put marks places p inside (subst (λ l. Contains l p) (ap (λ (g : Entry). needs_of H (pattern_at K g.key).slots g) one ∙ sym are) need))
    ]
    | inr c ↦ absurd (let l = below q c in omega arith)
  ];
  only = λ p h. elim (marks_only marks places p h) [
    | inl old ↦ m.only p old
    | inr c ↦ by_entry e here (m.only at marked) (subst (λ l. Contains l p) are c)
  ];
}

-- and one that is not
pub same_marks : (K : List Shape) (H : List Entry) (goal : List ℕ) (at : ℕ) (marks : List Bool) → (IsMarkedAt marks at → ⊥) → MarksFrom K H goal (at + 1) marks → MarksFrom K H goal at marks
same_marks K H goal at marks unmarked m = record {
  count = m.count;
  goal_marked = m.goal_marked;
  closed = λ p q f past there is need. elim (cases_lt at q) [
    | inl later ↦ m.closed p q f (omega arith) there is need
    | inr now ↦ absurd (let same : q ≡ at = omega arith in unmarked (subst (IsMarkedAt marks) same is))
  ];
  only = m.only;
}
