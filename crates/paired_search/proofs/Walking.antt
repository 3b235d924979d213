-- Two ascending lists of names, walked at once.
use Rattle.std.proofs.Common.{List, [], ◌∷◌, ◌++◌, ℕ, Option, Some, None, IsSome, All, Contains, take, get_or, length, slice_index, ◌≡◌, ◌≢◌, ◌<◌, ◌≤◌, ◌+◌, ◌⊎◌, ◌==◌, inl, inr, refl, sym, ◌∙◌, subst, arith, eq-eqb, eqb-true, length-append}
use Rattle.std.specs.List.Sorted.{IsStrictlyIncreasing}
use Rattle.std.proofs.lemmas.Bool.{cases_Bool, cond-true, cond-false}
use Rattle.std.proofs.lemmas.List.{take_all, take_more}
use Rattle.std.proofs.lemmas.List.Elements.{All-push, All-weaker, Contains-push, Contains-push_cases, Contains-append_left}
use Rattle.std.proofs.lemmas.Option.{same_Some}
use Rattle.chase_laws.specs.View.{label_in}
use Rattle.paired_search.specs.Both.{NamesBoth, IsLeastFrom, IsPast, IsAhead, IsWalkedTo}

-- ---- the label of a name in a view with one name more

pub label_push : (view : List (ℕ × ℕ)) (n l m k : ℕ) → label_in (view ++ (n, l) ∷ []) m ≡ Some k → (label_in view m ≡ Some k) ⊎ ((n ≡ m) × (l ≡ k))
label_push [] n l m k h = elim (cases_Bool (n == m)) [
  | inl t ↦ inr (eqb-true n m t, same_Some l k (sym (cond-true (n == m) (Some l) None t) ∙ h))
  | inr f ↦ absurd (let e : None ≡ Some k = sym (cond-false (n == m) (Some l) None f) ∙ h in cc)
]
label_push (p ∷ view) n l m k h = elim (cases_Bool (p.0 == m)) [
  | inl t ↦ inl (cond-true (p.0 == m) (Some p.1) (label_in view m) t ∙ sym (cond-true (p.0 == m) (Some p.1) (label_in (view ++ (n, l) ∷ []) m) t) ∙ h)
  | inr f ↦ elim (label_push view n l m k (sym (cond-false (p.0 == m) (Some p.1) (label_in (view ++ (n, l) ∷ []) m) f) ∙ h)) [
    | inl e ↦ inl (cond-false (p.0 == m) (Some p.1) (label_in view m) f ∙ e)
    | inr e ↦ inr e
  ]
]

some_is : (o : Option ℕ) (k : ℕ) → o ≡ Some k → IsSome o
some_is o k e = rw e refl

some_of : (o : Option ℕ) → IsSome o → (k : ℕ) × (o ≡ Some k)
some_of None h = absurd (cc)
some_of (Some k) h = (k, refl)

label_left : (view : List (ℕ × ℕ)) (n l m : ℕ) → IsSome (label_in view m) → IsSome (label_in (view ++ (n, l) ∷ []) m)
label_left [] n l m h = absurd (cc)
label_left (p ∷ view) n l m h = elim (cases_Bool (p.0 == m)) [
  | inl t ↦ some_is (label_in ((p ∷ view) ++ (n, l) ∷ []) m) p.1 (cond-true (p.0 == m) (Some p.1) (label_in (view ++ (n, l) ∷ []) m) t)
  | inr f ↦ subst IsSome (sym (cond-false (p.0 == m) (Some p.1) (label_in (view ++ (n, l) ∷ []) m) f))
      (label_left view n l m (subst IsSome (cond-false (p.0 == m) (Some p.1) (label_in view m) f) h))
]

label_here : (view : List (ℕ × ℕ)) (n l : ℕ) → IsSome (label_in (view ++ (n, l) ∷ []) n)
label_here [] n l = some_is (label_in ((n, l) ∷ []) n) l (cond-true (n == n) (Some l) None (eq-eqb n n refl))
label_here (p ∷ view) n l = elim (cases_Bool (p.0 == n)) [
  | inl t ↦ some_is (label_in ((p ∷ view) ++ (n, l) ∷ []) n) p.1 (cond-true (p.0 == n) (Some p.1) (label_in (view ++ (n, l) ∷ []) n) t)
  | inr f ↦ subst IsSome (sym (cond-false (p.0 == n) (Some p.1) (label_in (view ++ (n, l) ∷ []) n) f)) (label_here view n l)
]

-- ---- one list

module _ (xs : List ℕ) (up : IsStrictlyIncreasing xs) (i n i' l : ℕ) (view : List (ℕ × ℕ)) (ahead : IsAhead xs i view) (least : i < length xs → n ≤ slice_index xs i) (p : IsPast xs i n i')
    (below : All (λ q. q.0 < n) view) (fewer : length view ≤ n) where
  ahead_more : IsAhead xs i' (view ++ (n, l) ∷ [])
  ahead_more = elim p [
    | inl s ↦ record {
      within = omega (arith, s.0, s.2);
      above = λ h.
          let lt : n < slice_index xs i' = higher s h in
          All-push (λ q. q.0 < slice_index xs i') view (n, l) (All-weaker (λ q. q.0 < n) (λ q. q.0 < slice_index xs i') (λ q k. omega arith) view below) lt;
      fewer = λ h. let lt : n < slice_index xs i' = higher s h in omega (arith, length_more);
    }
    | inr s ↦ record {
      within = omega (arith, s.0, ahead.within);
      above = λ h.
          let lt : n < slice_index xs i' = strict s h in
          All-push (λ q. q.0 < slice_index xs i') view (n, l) (All-weaker (λ q. q.0 < n) (λ q. q.0 < slice_index xs i') (λ q k. omega arith) view below) lt;
      fewer = λ h. let lt : n < slice_index xs i' = strict s h in omega (arith, length_more);
    }
  ]
    where
      length_more : length (view ++ (n, l) ∷ []) ≡ length view + 1
      length_more = grind (arith, length-append)

      higher : (i < length xs) × (slice_index xs i ≡ n) × (i' ≡ i + 1) → i' < length xs → n < slice_index xs i'
      higher s h = let k : slice_index xs i < slice_index xs (i + 1) = up i (omega (arith, s.2)) in subst (λ m. n < slice_index xs m) (sym s.2) (omega (arith, s.1))

      strict : (i' ≡ i) × (i < length xs → slice_index xs i ≢ n) → i' < length xs → n < slice_index xs i'
      strict s h = let in_i : i < length xs = omega (arith, s.0) in let le = least in_i in let ne = s.1 in_i in subst (λ m. n < slice_index xs m) (sym s.0) (omega arith)

  kept_stands : (m : ℕ) → Contains (take i xs) m → Contains (take i' xs) m
  kept_stands m h = elim p [
    | inl s ↦ subst (λ k. Contains (take k xs) m) (sym s.2) (subst (λ zs. Contains zs m) (sym (take_more xs i 0 s.0)) (Contains-append_left (take i xs) (get_or xs i 0 ∷ []) m h))
    | inr s ↦ subst (λ k. Contains (take k xs) m) (sym s.0) h
  ]

  new_stands : (i < length xs) × (slice_index xs i ≡ n) → Contains (take i' xs) n
  new_stands h = elim p [
    | inl s ↦ subst (λ k. Contains (take k xs) n) (sym s.2) (subst (λ zs. Contains zs n) (sym (take_more xs i 0 s.0)) (subst (Contains (take i xs ++ get_or xs i 0 ∷ [])) s.1 (Contains-push (take i xs) (get_or xs i 0))))
    | inr s ↦ absurd (s.1 h.0 h.1)
  ]

  stood : (m : ℕ) → Contains (take i' xs) m → Contains (take i xs) m ⊎ (n ≡ m)
  stood m h = elim p [
    | inl s ↦ elim (Contains-push_cases (take i xs) (get_or xs i 0) m (subst (λ zs. Contains zs m) (take_more xs i 0 s.0) (subst (λ k. Contains (take k xs) m) s.2 h))) [
      | inl k ↦ inl k
      | inr k ↦ inr (sym s.1 ∙ k)
    ]
    | inr s ↦ inl (subst (λ k. Contains (take k xs) m) s.0 h)
  ]

  goes_on : i ≤ i'
  goes_on = elim p [ inl s ↦ omega (arith, s.2) | inr s ↦ omega (arith, s.0) ]

  goes_past : (i < length xs) × (slice_index xs i ≡ n) → i < i'
  goes_past h = elim p [ inl s ↦ omega (arith, s.2) | inr s ↦ absurd (s.1 h.0 h.1) ]

-- ---- both lists

module _ (xs ys : List ℕ) (xs_up : IsStrictlyIncreasing xs) (ys_up : IsStrictlyIncreasing ys) (i j n i' j' l : ℕ) (view : List (ℕ × ℕ))
    (walked : IsWalkedTo xs i ys j view) (least : IsLeastFrom xs i ys j n) where
  -- the names of the view are below the least name from there on
  pub least_above : All (λ v. v.0 < n) view
  least_above = elim least.stands [
    | inl s ↦ subst (λ m. All (λ (v : ℕ × ℕ). v.0 < m) view) s.1 (walked.first.above s.0)
    | inr s ↦ subst (λ m. All (λ (v : ℕ × ℕ). v.0 < m) view) s.1 (walked.second.above s.0)
  ]

  -- and there are no more of them than it says
  pub least_fewer : length view ≤ n
  least_fewer = elim least.stands [
    | inl s ↦ subst (λ m. length view ≤ m) s.1 (walked.first.fewer s.0)
    | inr s ↦ subst (λ m. length view ≤ m) s.1 (walked.second.fewer s.0)
  ]

  module _ (p : IsPast xs i n i') (q : IsPast ys j n j') where
    names_more : NamesBoth (take i' xs) (take j' ys) (view ++ (n, l) ∷ [])
    names_more = λ m. (
      (λ h. let k = some_of (label_in (view ++ (n, l) ∷ []) m) h in elim (label_push view n l m k.0 k.1) [
        | inl e ↦ elim ((walked.names m).0 (some_is (label_in view m) k.0 e)) [
          | inl c ↦ inl (kept_stands xs xs_up i n i' l view walked.first least.first p least_above least_fewer m c)
          | inr c ↦ inr (kept_stands ys ys_up j n j' l view walked.second least.second q least_above least_fewer m c)
        ]
        | inr e ↦ subst (λ o. Contains (take i' xs) o ⊎ Contains (take j' ys) o) e.0 (elim least.stands [
          | inl s ↦ inl (new_stands xs xs_up i n i' l view walked.first least.first p least_above least_fewer s)
          | inr s ↦ inr (new_stands ys ys_up j n j' l view walked.second least.second q least_above least_fewer s)
        ])
      ]),
      (λ h. let before : (Contains (take i xs) m ⊎ Contains (take j ys) m) ⊎ (n ≡ m) = elim h [
        | inl c ↦ elim (stood xs xs_up i n i' l view walked.first least.first p least_above least_fewer m c) [ inl k ↦ inl (inl k) | inr k ↦ inr k ]
        | inr c ↦ elim (stood ys ys_up j n j' l view walked.second least.second q least_above least_fewer m c) [ inl k ↦ inl (inr k) | inr k ↦ inr k ]
      ] in elim before [
        | inl k ↦ label_left view n l m ((walked.names m).1 k)
        | inr e ↦ subst (λ o. IsSome (label_in (view ++ (n, l) ∷ []) o)) e (label_here view n l)
      ]),
    )

    -- one list at least goes on
    pub further : i + j < i' + j'
    further =
        let a = goes_on xs xs_up i n i' l view walked.first least.first p least_above least_fewer in
        let b = goes_on ys ys_up j n j' l view walked.second least.second q least_above least_fewer in
        elim least.stands [
          | inl s ↦ omega (arith, goes_past xs xs_up i n i' l view walked.first least.first p least_above least_fewer s)
          | inr s ↦ omega (arith, goes_past ys ys_up j n j' l view walked.second least.second q least_above least_fewer s)
        ]

    -- the view with the least name, and the places behind it
    pub walked_more : IsWalkedTo xs i' ys j' (view ++ (n, l) ∷ [])
    walked_more = let on = further in record {
      names = names_more;
      few = omega (arith, length-append view ((n, l) ∷ []), walked.few);
      first = ahead_more xs xs_up i n i' l view walked.first least.first p least_above least_fewer;
      second = ahead_more ys ys_up j n j' l view walked.second least.second q least_above least_fewer;
    }

-- behind the ends of both lists the view has all their names
pub walked_all : (xs : List ℕ) (i : ℕ) (ys : List ℕ) (j : ℕ) (view : List (ℕ × ℕ)) → IsWalkedTo xs i ys j view → length xs ≤ i → length ys ≤ j → NamesBoth xs ys view
walked_all xs i ys j view walked a b = subst (λ (t : List ℕ × List ℕ). NamesBoth t.0 t.1 view) (λ k. (take_all i xs a k, take_all j ys b k)) walked.names
