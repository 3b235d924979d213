-- What is kept of pairs of which those with a property are kept.
use Rattle.std.proofs.Common.{List, [], ◌∷◌, ◌++◌, ℕ, zero, suc, All, Contains, length, ◌≡◌, ◌<◌, ◌≤◌, ◌⊎◌, inl, inr, refl, sym, ap, subst, arith}
use Rattle.std.specs.List.{AllPairs}
use Rattle.std.proofs.lemmas.List.Elements.{All-cons, All-nil, All-contains, Contains-append_right, Contains-append_cases}
use Rattle.std.proofs.lemmas.List.Kept.{AllPairs-cons}
use Rattle.chase_laws.specs.Candidate.{AreAscending}
use Rattle.pair_filter.specs.Selection.{IsSelection}

module _ (P : ℕ × ℕ → Type 0) where
  -- a pair more, which is kept
  pub selection_push : (xs ys : List (ℕ × ℕ)) (x : ℕ × ℕ) → IsSelection P xs ys → P x → IsSelection P (xs ++ x ∷ []) (ys ++ x ∷ [])
  selection_push [] ys x h p = rw h (inl ([], p, refl, refl))
  selection_push (y ∷ xs) ys x h p = elim h [
    | inl r ↦ inl (r.0 ++ x ∷ [], r.1, ap (λ l. l ++ x ∷ []) r.2, selection_push xs r.0 x r.3 p)
    | inr r ↦ inr (r.0, selection_push xs ys x r.1 p)
  ]

  -- one that is not
  pub selection_skip : (xs ys : List (ℕ × ℕ)) (x : ℕ × ℕ) → IsSelection P xs ys → ¬ (P x) → IsSelection P (xs ++ x ∷ []) ys
  selection_skip [] ys x h none = inr (none, h)
  selection_skip (y ∷ xs) ys x h none = elim h [
    | inl r ↦ inl (r.0, r.1, r.2, selection_skip xs r.0 x r.3 none)
    | inr r ↦ inr (r.0, selection_skip xs ys x r.1 none)
  ]

  -- what is kept of two lists, one behind the other
  pub selection_append : (xs zs ys ws : List (ℕ × ℕ)) → IsSelection P xs ys → IsSelection P zs ws → IsSelection P (xs ++ zs) (ys ++ ws)
  selection_append [] zs ys ws h more = rw h more
  selection_append (x ∷ xs) zs ys ws h more = elim h [
    | inl r ↦ inl (r.0 ++ ws, r.1, ap (λ l. l ++ ws) r.2, selection_append xs zs r.0 ws r.3 more)
    | inr r ↦ inr (r.0, selection_append xs zs ys ws r.1 more)
  ]

  nothing_in : (x : ℕ × ℕ) → ¬ (Contains [] x)
  nothing_in x c = omega (arith, c.1)

  at_front : (x : ℕ × ℕ) (xs : List (ℕ × ℕ)) → Contains (x ∷ xs) x
  at_front x xs = (zero, omega arith, refl)

  behind : (x y : ℕ × ℕ) (xs : List (ℕ × ℕ)) → Contains xs x → Contains (y ∷ xs) x
  behind x y xs c = Contains-append_right (y ∷ []) xs x c

  front_or_behind : (x y : ℕ × ℕ) (xs : List (ℕ × ℕ)) → Contains (y ∷ xs) x → (y ≡ x) ⊎ Contains xs x
  front_or_behind x y xs c = elim (Contains-append_cases (y ∷ []) xs x c) [
    | inl here ↦ inl (All-contains (λ z. z ≡ x → y ≡ x) (y ∷ []) x (All-cons (λ z. z ≡ x → y ≡ x) y [] (λ e. e) (All-nil (λ z. z ≡ x → y ≡ x))) here refl)
    | inr there ↦ inr there
  ]

  -- what is kept was there, and has the property
  pub selection_only : (xs ys : List (ℕ × ℕ)) → IsSelection P xs ys → (x : ℕ × ℕ) → Contains ys x → Contains xs x × P x
  selection_only [] ys h x c = absurd (nothing_in x (subst (λ l. Contains l x) h c))
  selection_only (y ∷ xs) ys h x c = elim h [
    | inl r ↦ elim (front_or_behind x y r.0 (subst (λ l. Contains l x) r.2 c)) [
      | inl e ↦ (subst (Contains (y ∷ xs)) e (at_front y xs), subst P e r.1)
      | inr there ↦ (let s = selection_only xs r.0 r.3 x there in (behind x y xs s.0, s.1))
    ]
    | inr r ↦ (let s = selection_only xs ys r.1 x c in (behind x y xs s.0, s.1))
  ]

  -- what was there and has the property is kept
  pub selection_every : (xs ys : List (ℕ × ℕ)) → IsSelection P xs ys → (x : ℕ × ℕ) → Contains xs x → P x → Contains ys x
  selection_every [] ys h x c p = absurd (nothing_in x c)
  selection_every (y ∷ xs) ys h x c p = elim h [
    | inl r ↦ elim (front_or_behind x y xs c) [
      | inl e ↦ subst (λ l. Contains l x) (sym r.2) (subst (Contains (y ∷ r.0)) e (at_front y r.0))
      | inr there ↦ subst (λ l. Contains l x) (sym r.2) (behind x y r.0 (selection_every xs r.0 r.3 x there p))
    ]
    | inr r ↦ elim (front_or_behind x y xs c) [
      | inl e ↦ absurd (r.0 (subst P (sym e) p))
      | inr there ↦ selection_every xs ys r.1 x there p
    ]
  ]

  -- what holds of all holds of what is kept
  selection_all : (R : ℕ × ℕ → Type 0) (xs ys : List (ℕ × ℕ)) → IsSelection P xs ys → All R xs → All R ys
  selection_all R [] ys h all = rw h (All-nil R)
  selection_all R (y ∷ xs) ys h all =
      let rest : All R xs = λ k d lt. all (suc k) d (omega arith) in
      elim h [
        | inl r ↦ rw r.2 (All-cons R y r.0 (all zero y (omega arith)) (selection_all R xs r.0 r.3 rest))
        | inr r ↦ selection_all R xs ys r.1 rest
      ]

  -- and they stay in order
  selection_pairs : (R : ℕ × ℕ → ℕ × ℕ → Type 0) (xs ys : List (ℕ × ℕ)) → IsSelection P xs ys → AllPairs R xs → AllPairs R ys
  selection_pairs R [] ys h all = rw h all
  selection_pairs R (y ∷ xs) ys h all =
      let rest : AllPairs R xs = λ i j d lt within. all (suc i) (suc j) d (omega arith) (omega arith) in
      let head : All (R y) xs = λ k d within. all zero (suc k) d (omega arith) (omega arith) in
      elim h [
        | inl r ↦ rw r.2 (AllPairs-cons R y r.0 (selection_all (R y) xs r.0 r.3 head) (selection_pairs R xs r.0 r.3 rest))
        | inr r ↦ selection_pairs R xs ys r.1 rest
      ]

  pub selection_ascending : (xs ys : List (ℕ × ℕ)) → IsSelection P xs ys → AreAscending xs → AreAscending ys
  selection_ascending xs ys h up = selection_pairs (λ x y. (x.0 < y.0) ⊎ ((x.0 ≡ y.0) × (x.1 < y.1))) xs ys h up

  -- no more are kept than there were
  pub selection_length : (xs ys : List (ℕ × ℕ)) → IsSelection P xs ys → length ys ≤ length xs
  selection_length [] ys h = rw h (omega arith)
  selection_length (x ∷ xs) ys h = elim h [
    | inl r ↦ rw r.2 (omega (arith, selection_length xs r.0 r.3))
    | inr r ↦ omega (arith, selection_length xs ys r.1)
  ]
