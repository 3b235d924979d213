-- What pairs join is the least equivalence that has them.
use Rattle.std.proofs.Common.{List, [], ◌∷◌, ◌++◌, ℕ, zero, suc, Bool, true, Contains, ap, arith, ◌||◌, ◌&&◌, ◌≡◌, ◌⊎◌, inl, inr, refl, sym, ◌∙◌, subst, eq-eqb, eqb-true, true≢false}
use Rattle.std.proofs.lemmas.Bool.{or_cases, and_parts, and_from, or_left, or_right, cases_Bool, false_from_ne_true}
use Rattle.std.specs.Cmp.{IsEquivalence}
use Rattle.chase_laws.specs.Joined.{joined}

-- what joins two numbers joined under one more pair
pub joined_parts : (c d : ℕ) (ps : List (ℕ × ℕ)) (a b : ℕ) → joined ((c, d) ∷ ps) a b ≡ true →
    (joined ps a b ≡ true) ⊎ (((joined ps a c ≡ true) × (joined ps d b ≡ true)) ⊎ ((joined ps a d ≡ true) × (joined ps c b ≡ true)))
unfolding joined
joined_parts c d ps a b h =
    elim (or_cases _ _ h) [
      | inl k ↦ elim (or_cases _ _ k) [ inl x ↦ inl x | inr y ↦ inr (inl (and_parts _ _ y)) ]
      | inr z ↦ inr (inr (and_parts _ _ z))
    ]

pub joined_more : (c d : ℕ) (ps : List (ℕ × ℕ)) (a b : ℕ) → joined ps a b ≡ true → joined ((c, d) ∷ ps) a b ≡ true
unfolding joined
joined_more c d ps a b h = or_left _ _ (or_left _ _ h)

pub joined_across : (c d : ℕ) (ps : List (ℕ × ℕ)) (a b : ℕ) → joined ps a c ≡ true → joined ps d b ≡ true → joined ((c, d) ∷ ps) a b ≡ true
unfolding joined
joined_across c d ps a b h k = or_left _ _ (or_right _ _ (and_from _ _ h k))

pub joined_back : (c d : ℕ) (ps : List (ℕ × ℕ)) (a b : ℕ) → joined ps a d ≡ true → joined ps c b ≡ true → joined ((c, d) ∷ ps) a b ≡ true
unfolding joined
joined_back c d ps a b h k = or_right _ _ (and_from _ _ h k)

pub joined_refl : (ps : List (ℕ × ℕ)) (a : ℕ) → joined ps a a ≡ true
unfolding joined
joined_refl [] a = eq-eqb a a refl
joined_refl (p ∷ ps) a = joined_more p.0 p.1 ps a a (joined_refl ps a)

pub joined_nil : (a b : ℕ) → joined [] a b ≡ true → a ≡ b
unfolding joined
joined_nil a b h = eqb-true a b h

pub joined_sym : (ps : List (ℕ × ℕ)) (a b : ℕ) → joined ps a b ≡ true → joined ps b a ≡ true
joined_sym [] a b h = unfold joined in eq-eqb b a (sym (joined_nil a b h))
joined_sym ((c, d) ∷ ps) a b h =
    elim (joined_parts c d ps a b h) [
      | inl k ↦ joined_more c d ps b a (joined_sym ps a b k)
      | inr m ↦ elim m [
        | inl k ↦ joined_back c d ps b a (joined_sym ps d b k.1) (joined_sym ps a c k.0)
        | inr k ↦ joined_across c d ps b a (joined_sym ps c b k.1) (joined_sym ps a d k.0)
      ]
    ]

pub joined_trans : (ps : List (ℕ × ℕ)) (a b c : ℕ) → joined ps a b ≡ true → joined ps b c ≡ true → joined ps a c ≡ true
joined_trans [] a b c h k = unfold joined in eq-eqb a c (joined_nil a b h ∙ joined_nil b c k)
joined_trans ((x, y) ∷ ps) a b c h k =
    elim (joined_parts x y ps a b h) [
      | inl ab ↦ elim (joined_parts x y ps b c k) [
        | inl bc ↦ joined_more x y ps a c (joined_trans ps a b c ab bc)
        | inr m ↦ elim m [
          | inl n ↦ joined_across x y ps a c (joined_trans ps a b x ab n.0) n.1
          | inr n ↦ joined_back x y ps a c (joined_trans ps a b y ab n.0) n.1
        ]
      ]
      | inr l ↦ elim l [
        | inl u ↦ elim (joined_parts x y ps b c k) [
          | inl bc ↦ joined_across x y ps a c u.0 (joined_trans ps y b c u.1 bc)
          | inr m ↦ elim m [
            | inl n ↦ joined_across x y ps a c u.0 n.1
            | inr n ↦ joined_more x y ps a c (joined_trans ps a x c u.0 n.1)
          ]
        ]
        | inr u ↦ elim (joined_parts x y ps b c k) [
          | inl bc ↦ joined_back x y ps a c u.0 (joined_trans ps x b c u.1 bc)
          | inr m ↦ elim m [
            | inl n ↦ joined_more x y ps a c (joined_trans ps a y c u.0 n.1)
            | inr n ↦ joined_back x y ps a c u.0 n.1
          ]
        ]
      ]
    ]

-- what one list joins, another joins
abbrev pub Within : List (ℕ × ℕ) → List (ℕ × ℕ) → Type 0
Within ps qs = (a b : ℕ) → joined ps a b ≡ true → joined qs a b ≡ true

pub Within-nil : (qs : List (ℕ × ℕ)) → Within [] qs
Within-nil qs a b h = subst (λ n. joined qs a n ≡ true) (joined_nil a b h) (joined_refl qs a)

pub Within-cons : (c d : ℕ) (ps qs : List (ℕ × ℕ)) → joined qs c d ≡ true → Within ps qs → Within ((c, d) ∷ ps) qs
Within-cons c d ps qs h w a b k =
    elim (joined_parts c d ps a b k) [
      | inl x ↦ w a b x
      | inr m ↦ elim m [
        | inl x ↦ joined_trans qs a c b (w a c x.0) (joined_trans qs c d b h (w d b x.1))
        | inr x ↦ joined_trans qs a d b (w a d x.0) (joined_trans qs d c b (joined_sym qs c d h) (w c b x.1))
      ]
    ]

pub Within-trans : (ps qs rs : List (ℕ × ℕ)) → Within ps qs → Within qs rs → Within ps rs
Within-trans ps qs rs u v a b h = v a b (u a b h)

pub Within-more : (p : ℕ × ℕ) (ps : List (ℕ × ℕ)) → Within ps (p ∷ ps)
Within-more p ps a b h = joined_more p.0 p.1 ps a b h

pub joined_head : (c d : ℕ) (ps : List (ℕ × ℕ)) → joined ((c, d) ∷ ps) c d ≡ true
joined_head c d ps = joined_across c d ps c d (joined_refl ps c) (joined_refl ps d)

-- a list joins no less than its front
pub Within-append : (ps more : List (ℕ × ℕ)) → Within ps (ps ++ more)
Within-append [] more = Within-nil more
Within-append ((c, d) ∷ ps) more =
    Within-cons c d ps ((c, d) ∷ (ps ++ more)) (joined_head c d (ps ++ more)) (Within-trans ps (ps ++ more) ((c, d) ∷ (ps ++ more)) (Within-append ps more) (Within-more (c, d) (ps ++ more)))

pub joined_last : (ps : List (ℕ × ℕ)) (c d : ℕ) → joined (ps ++ (c, d) ∷ []) c d ≡ true
joined_last [] c d = joined_head c d []
joined_last (p ∷ ps) c d = joined_more p.0 p.1 (ps ++ (c, d) ∷ []) c d (joined_last ps c d)

-- a pair at the end may stand at the head
pub Within-push : (ps : List (ℕ × ℕ)) (c d : ℕ) (qs : List (ℕ × ℕ)) → joined qs c d ≡ true → Within ps qs → Within (ps ++ (c, d) ∷ []) qs
Within-push [] c d qs h w = Within-cons c d [] qs h (Within-nil qs)
Within-push ((x, y) ∷ ps) c d qs h w =
    Within-cons x y (ps ++ (c, d) ∷ []) qs (w x y (joined_head x y ps))
    (Within-push ps c d qs h (Within-trans ps ((x, y) ∷ ps) qs (Within-more (x, y) ps) w))

pub Within-push_head : (ps : List (ℕ × ℕ)) (c d : ℕ) → Within (ps ++ (c, d) ∷ []) ((c, d) ∷ ps)
Within-push_head ps c d = Within-push ps c d ((c, d) ∷ ps) (joined_head c d ps) (Within-more (c, d) ps)

pub Within-head_push : (ps : List (ℕ × ℕ)) (c d : ℕ) → Within ((c, d) ∷ ps) (ps ++ (c, d) ∷ [])
Within-head_push ps c d = Within-cons c d ps (ps ++ (c, d) ∷ []) (joined_last ps c d) (Within-append ps ((c, d) ∷ []))

-- two lists that join the same give the same answers
pub Within-both : (ps qs : List (ℕ × ℕ)) → Within ps qs → Within qs ps → (a b : ℕ) → joined ps a b ≡ joined qs a b
Within-both ps qs u v a b = elim (cases_Bool (joined ps a b)) [
  | inl h ↦ h ∙ sym (u a b h)
  | inr h ↦ h ∙ sym (false_from_ne_true (joined qs a b) (λ k. true≢false (sym (v a b k) ∙ h)))
]

-- one more pair at the end, as at the head
pub joined-push : (ps : List (ℕ × ℕ)) (c d a b : ℕ) → joined (ps ++ (c, d) ∷ []) a b ≡ (joined ps a b || (joined ps a c && joined ps d b) || (joined ps a d && joined ps c b))
joined-push ps c d a b = Within-both (ps ++ (c, d) ∷ []) ((c, d) ∷ ps) (Within-push_head ps c d) (Within-head_push ps c d) a b ∙ unfold joined in refl

-- each pair of the list is joined
pub joined_has : (ps : List (ℕ × ℕ)) (a b : ℕ) → Contains ps (a, b) → joined ps a b ≡ true
joined_has [] a b h = absurd (let l = h.1 in omega arith)
joined_has (p ∷ ps) a b (zero, l, e) =
    let x : p.0 ≡ a = ap (λ (q : ℕ × ℕ). q.0) e in
    let y : p.1 ≡ b = ap (λ (q : ℕ × ℕ). q.1) e in
    subst (λ m. joined (p ∷ ps) m b ≡ true) x (subst (λ n. joined (p ∷ ps) p.0 n ≡ true) y (joined_head p.0 p.1 ps))
joined_has (p ∷ ps) a b (suc k, l, e) = joined_more p.0 p.1 ps a b (joined_has ps a b (k, omega arith, e))

-- an equivalence that has the pairs has all that they join
pub joined_least : (ps : List (ℕ × ℕ)) (same : ℕ → ℕ → Bool) → IsEquivalence same → ((a b : ℕ) → Contains ps (a, b) → same a b ≡ true) →
    (a b : ℕ) → joined ps a b ≡ true → same a b ≡ true
joined_least [] same laws has a b h = subst (λ n. same a n ≡ true) (joined_nil a b h) (laws.refl a)
joined_least (p ∷ ps) same laws has a b h =
    let rest = joined_least ps same laws (λ c d k. has c d (suc k.0, (let l = k.1 in omega arith), k.2)) in
    let here : same p.0 p.1 ≡ true = has p.0 p.1 (0, omega arith, refl) in
    elim (joined_parts p.0 p.1 ps a b h) [
      | inl k ↦ rest a b k
      | inr m ↦ elim m [
        | inl k ↦ chain a p.0 p.1 b (rest a p.0 k.0) here (rest p.1 b k.1)
        | inr k ↦ chain a p.1 p.0 b (rest a p.1 k.0) (sym (laws.symm p.0 p.1) ∙ here) (rest p.0 b k.1)
      ]
    ]
  where
    chain : (a c d b : ℕ) → same a c ≡ true → same c d ≡ true → same d b ≡ true → same a b ≡ true
    chain a c d b x y z = laws.congr a c b x ∙ laws.congr c d b y ∙ z
