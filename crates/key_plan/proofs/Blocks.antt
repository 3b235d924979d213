-- The edges that a place adds.
use Rattle.std.proofs.Common.{List, [], ◌∷◌, ℕ, zero, suc, Bool, Contains, map, filter, get_or, length, slice_index, slice_index_or, ◌≡◌, ◌≢◌, ◌<◌, ◌≤◌, ◌⊎◌, true, eqb-true, eq-eqb, inl, inr, sym, ◌∙◌, ap, subst, arith, length-append}
use Rattle.std.proofs.lemmas.Bool.{cases_lt, or_cases, or_left, or_right, and_parts, and_from, ltb-true, lt-ltb, cond_both, true≢false}
use Rattle.std.proofs.lemmas.List.{get_or_append_left, get_or-map, length-map}
use Rattle.std.proofs.lemmas.List.Elements.{All-append, All-filter, All-weaker, filter_passes, All-contains_itself, Contains-append_left, Contains-append_right}
use Rattle.chase_laws.specs.declared.pattern.Edge.{Edge}
use Rattle.chase_laws.specs.Shape.{Shape}
use Rattle.key_plan.specs.Order.{IsOrder}
use Rattle.key_plan.specs.Making.{is_proper, is_loop, block_of}
use Rattle.key_plan.specs.Route.{moved, AreInverse, IsProper, IsBlock}

proper_from : (s : ℕ) (e : Edge) → is_proper s e ≡ true → IsProper s e
proper_from s e h = elim (or_cases _ _ h) [
  | inl k ↦ let p = and_parts _ _ k in inl (eqb-true e.from s p.0, ltb-true e.to s p.1)
  | inr k ↦ let p = and_parts _ _ k in inr (ltb-true e.from s p.0, eqb-true e.to s p.1)
]

proper_passes : (s : ℕ) (e : Edge) → IsProper s e → is_proper s e ≡ true
proper_passes s e h = elim h [
  | inl k ↦ or_left _ _ (and_from _ _ (eq-eqb e.from s k.0) (lt-ltb e.to s k.1))
  | inr k ↦ or_right _ _ (and_from _ _ (lt-ltb e.from s k.0) (eq-eqb e.to s k.1))
]

loop_from : (s : ℕ) (e : Edge) → is_loop s e ≡ true → (e.from ≡ s) × (e.to ≡ s)
loop_from s e h = let p = and_parts _ _ h in (eqb-true e.from s p.0, eqb-true e.to s p.1)

-- what passes is kept
kept_at : (p : Edge → Bool) (xs : List Edge) (k : ℕ) (x : Edge) → k < length xs → get_or xs k x ≡ x → p x ≡ true → Contains (filter p xs) x
kept_at p [] k x l e h = absurd (omega arith)
kept_at p (y ∷ ys) zero x l e h =
    cond_both (p y) (y ∷ filter p ys) (filter p ys) (λ zs. Contains zs x) (λ t. (0, omega arith, e)) (λ f. absurd (true≢false (sym (ap p e ∙ h) ∙ f)))
kept_at p (y ∷ ys) (suc k) x l e h =
    let c = kept_at p ys k x (omega arith) e h in
    cond_both (p y) (y ∷ filter p ys) (filter p ys) (λ zs. Contains zs x) (λ t. (suc c.0, (let m = c.1 in omega arith), c.2)) (λ f. c)

contains_filter : (p : Edge → Bool) (xs : List Edge) (x : Edge) → Contains xs x → p x ≡ true → Contains (filter p xs) x
contains_filter p xs x c h = kept_at p xs c.0 x c.1 c.2 h

contains_some : (xs : List Edge) (x : Edge) → Contains xs x → 0 < length xs
contains_some xs x c = let h = c.1 in omega arith

contains_map : (f : Edge → Edge) (xs : List Edge) (x : Edge) → Contains xs x → Contains (map f xs) (f x)
contains_map f xs x c = (c.0, (let e = length-map xs f in let h = c.1 in omega arith), get_or-map f xs c.0 x (f x) c.1 ∙ ap f c.2)

module _ (Q : Shape) (order place : List ℕ) (edges : List Edge) (is : IsOrder Q order) (inverse : AreInverse order place) (same : edges ≡ map (moved place) Q.edges) where
  -- a later place has an edge to an earlier one
  leading : (s : ℕ) → s < length Q.slots → s ≢ 0 → (e : Edge) × Contains edges e × IsProper s e
  leading s l ne =
      let n = is.one_each in
      let b = is.joined s (omega arith) ne in
      let j = b.0 in
      let e : Edge = b.2.0 in
      let at_j : slice_index place (slice_index order j) ≡ j = inverse.place_of j (let h = b.1 in omega arith) in
      let at_s : slice_index place (slice_index order s) ≡ s = inverse.place_of s (omega arith) in
      let there = subst (λ (es : List Edge). Contains es (moved place e)) (sym same) (contains_map (moved place) Q.edges e b.2.1) in
      elim b.2.2 [
        | inl h ↦ (let from : slice_index place e.from ≡ j = ap (slice_index place) h.0 ∙ at_j in (moved place e, there, inr ((let k = b.1 in omega arith), ap (slice_index place) h.1 ∙ at_s)))
        | inr h ↦ (let to : slice_index place e.to ≡ j = ap (slice_index place) h.1 ∙ at_j in (moved place e, there, inl (ap (slice_index place) h.0 ∙ at_s, (let k = b.1 in omega arith))))
      ]

  pub block_is : (slots : _) (s : ℕ) → s < length Q.slots → IsBlock (record { slots = slots; edges = edges }) s (block_of edges s)
  block_is slots s l = record {
    some = λ ne. let e = leading s l ne in
        let c = contains_filter (is_proper s) edges e.0 e.1 (proper_passes s e.0 e.2) in
        let m = length-append (filter (is_proper s) edges) (filter (is_loop s) edges) in
        let k = contains_some (filter (is_proper s) edges) e.0 c in omega arith;
    leads = λ ne d. let e = leading s l ne in
        let c = contains_filter (is_proper s) edges e.0 e.1 (proper_passes s e.0 e.2) in
        let k = contains_some (filter (is_proper s) edges) e.0 c in
        subst (IsProper s) (sym (get_or_append_left (filter (is_proper s) edges) (filter (is_loop s) edges) d 0 k))
        (proper_from s (slice_index_or (filter (is_proper s) edges) 0 d) (filter_passes (is_proper s) edges 0 d k));
    ends = All-append (λ (e : Edge). IsProper s e ⊎ ((e.from ≡ s) × (e.to ≡ s))) (filter (is_proper s) edges) (filter (is_loop s) edges)
        (All-weaker (λ (e : Edge). is_proper s e ≡ true) (λ (e : Edge). IsProper s e ⊎ ((e.from ≡ s) × (e.to ≡ s))) (λ e h. inl (proper_from s e h)) (filter (is_proper s) edges) (filter_passes (is_proper s) edges))
        (All-weaker (λ (e : Edge). is_loop s e ≡ true) (λ (e : Edge). IsProper s e ⊎ ((e.from ≡ s) × (e.to ≡ s))) (λ e h. inr (loop_from s e h)) (filter (is_loop s) edges) (filter_passes (is_loop s) edges));
    every = λ k d h from to. each (get_or edges k d) (All-contains_itself edges k d h) from to;
    only = All-append (Contains edges) (filter (is_proper s) edges) (filter (is_loop s) edges) (All-filter (is_proper s) (Contains edges) edges (All-contains_itself edges)) (All-filter (is_loop s) (Contains edges) edges (All-contains_itself edges));
  }
    where
      each : (e : Edge) → Contains edges e → e.from ≤ s → e.to ≤ s → ((e.from < s) × (e.to < s)) ⊎ Contains (block_of edges s) e
      each e c from to = elim (cases_lt e.from s) [
        | inl f ↦ elim (cases_lt e.to s) [
          | inl t ↦ inl (f, t)
          | inr t ↦ inr (Contains-append_left (filter (is_proper s) edges) (filter (is_loop s) edges) e (contains_filter (is_proper s) edges e c (proper_passes s e (inr (f, omega arith)))))
        ]
        | inr f ↦ elim (cases_lt e.to s) [
          | inl t ↦ inr (Contains-append_left (filter (is_proper s) edges) (filter (is_loop s) edges) e (contains_filter (is_proper s) edges e c (proper_passes s e (inl (omega arith, t)))))
          | inr t ↦ inr (Contains-append_right (filter (is_proper s) edges) (filter (is_loop s) edges) e (contains_filter (is_loop s) edges e c (and_from _ _ (eq-eqb e.from s (omega arith)) (eq-eqb e.to s (omega arith)))))
        ]
      ]
