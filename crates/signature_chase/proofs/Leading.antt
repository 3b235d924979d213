-- Sorted rows get leaders one after another.
use Rattle.std.proofs.Common.{List, [], ◌∷◌, ℕ, zero, suc, Bool, false, Ordering, cond, ltb, eqb, length, get_or, set, ◌≡◌, ◌≢◌, ◌<◌, ◌≤◌, ◌+◌, ◌-◌, ◌⊎◌, inl, inr, refl, sym, ◌∙◌, ap, subst, arith}
use Rattle.std.specs.Ordering.{is_lt, nat_cmp, ordering_then}
use Rattle.std.specs.declared.cmp.Ordering.TheVariants.{Less, Equal, Greater}
use Rattle.std.proofs.lemmas.Bool.{cases_lt, cases_eq, cases_order, false≢true, cond-true, cond-false, lt-ltb, le-ltb, eq-eqb}
use Rattle.std.proofs.lemmas.List.{get_or-set_same, get_or-set_other, length-set}
use Rattle.signature_chase.specs.Leaders.{Keyed, keyed_at, SameKey, IsNotAbove, AreLed}

-- the order of keyed rows
abbrev pub key_cmp : Keyed → Keyed → Ordering
key_cmp x y = ordering_then (ordering_then (nat_cmp x.0 y.0) (nat_cmp x.1 y.1)) (nat_cmp x.2 y.2)

same_sym : (x y : Keyed) → SameKey x y → SameKey y x
same_sym x y h = (sym h.0, sym h.1)

pub same_trans : (x y z : Keyed) → SameKey x y → SameKey y z → SameKey x z
same_trans x y z h k = (h.0 ∙ k.0, h.1 ∙ k.1)

same_not_above : (x y : Keyed) → SameKey x y → IsNotAbove x y
same_not_above x y h = let a = h.1 in inr (h.0, omega arith)

not_above_trans : (x y z : Keyed) → IsNotAbove x y → IsNotAbove y z → IsNotAbove x z
not_above_trans x y z (inl a) (inl b) = inl (omega arith)
not_above_trans x y z (inl a) (inr b) = let e = b.0 in inl (omega arith)
not_above_trans x y z (inr a) (inl b) = let e = a.0 in inl (omega arith)
not_above_trans x y z (inr a) (inr b) = let p = a.1 in let q = b.1 in inr (a.0 ∙ b.0, omega arith)

not_above_both : (x y : Keyed) → IsNotAbove x y → IsNotAbove y x → SameKey x y
not_above_both x y (inl a) (inl b) = absurd (omega arith)
not_above_both x y (inl a) (inr b) = let e = b.0 in absurd (omega arith)
not_above_both x y (inr a) (inl b) = let e = a.0 in absurd (omega arith)
not_above_both x y (inr a) (inr b) = let p = a.1 in let q = b.1 in (a.0, omega arith)

-- what holds of the rows so far: they have leaders, and the last one's is known
pub record IsLeading (keyed : List Keyed) (leaders : List ℕ) (count : ℕ) (head : Keyed) : Type 0 where
  pub led : AreLed keyed leaders count
  pub place : (j : ℕ) × (j < length keyed) × (keyed_at keyed j ≡ head)
  pub near : SameKey head (keyed_at keyed (count - 1))
  pub low : (i : ℕ) → i < count → IsNotAbove (keyed_at keyed i) head
  pub same : (i : ℕ) → i < count → SameKey (keyed_at keyed i) head → get_or leaders (keyed_at keyed i).2 0 ≡ head.2

pub leading_none : (keyed : List Keyed) (leaders : List ℕ) → 0 < length keyed → IsLeading keyed leaders 0 (keyed_at keyed 0)
leading_none keyed leaders some = record {
  led = record { led = λ k h. absurd (omega arith); equal = λ k l h. absurd (omega arith) };
  place = (0, some, refl);
  near = (refl, refl);
  low = λ i h. absurd (omega arith);
  same = λ i h. absurd (omega arith);
}

module _ (keyed : List Keyed) (leaders : List ℕ) (k : ℕ)
    (sorted : (i : ℕ) → i + 1 < length keyed → IsNotAbove (keyed_at keyed i) (keyed_at keyed (i + 1)))
    (once : (i l : ℕ) → i < length keyed → l < length keyed → (keyed_at keyed i).2 ≡ (keyed_at keyed l).2 → SameKey (keyed_at keyed i) (keyed_at keyed l))
    (in_k : k < length keyed) (in_row : (keyed_at keyed k).2 < length leaders) where
  next : Keyed
  next = keyed_at keyed k

  -- with a head for the row here
  step : (head : Keyed) → AreLed keyed leaders k → ((j : ℕ) × (j < length keyed) × (keyed_at keyed j ≡ head)) → SameKey head next →
      ((i : ℕ) → i < k → SameKey (keyed_at keyed i) next → get_or leaders (keyed_at keyed i).2 0 ≡ head.2) → ((i : ℕ) → i < k → IsNotAbove (keyed_at keyed i) head) →
      IsLeading keyed (set leaders next.2 head.2) (k + 1) head
  unfolding next
  step head led place same known low = record {
    led = record {
      led = λ i h. elim (cases_lt i k) [
        | inl lt ↦ (let r = led.led i lt in (r.0, r.1, kept i lt ∙ r.2, r.3))
        | inr ge ↦ (let e : k ≡ i = omega arith in
            subst (λ m. (j : ℕ) × (j < length keyed) × (get_or after (keyed_at keyed m).2 0 ≡ (keyed_at keyed j).2) × SameKey (keyed_at keyed j) (keyed_at keyed m)) e
            (place.0, place.1, here ∙ ap (λ (x : Keyed). x.2) (sym place.2), subst (λ (x : Keyed). SameKey x next) (sym place.2) same))
      ];
      equal = λ i l hi hl both. elim (cases_lt i k) [
        | inl lt ↦ elim (cases_lt l k) [
          | inl mt ↦ kept i lt ∙ led.equal i l lt mt both ∙ sym (kept l mt)
          | inr ge ↦ (let e : k ≡ l = omega arith in
              kept i lt ∙ known i lt (subst (λ m. SameKey (keyed_at keyed i) (keyed_at keyed m)) (sym e) both) ∙ sym here ∙ ap (λ m. get_or after (keyed_at keyed m).2 0) e)
        ]
        | inr ge ↦ (let e : k ≡ i = omega arith in elim (cases_lt l k) [
          | inl mt ↦
              sym (kept l mt ∙ known l mt (subst (λ m. SameKey (keyed_at keyed l) (keyed_at keyed m)) (sym e) (same_sym (keyed_at keyed i) (keyed_at keyed l) both)) ∙ sym here ∙ ap (λ m. get_or after (keyed_at keyed m).2 0) e)
          | inr he ↦ (let f : i ≡ l = omega arith in ap (λ m. get_or after (keyed_at keyed m).2 0) f)
        ])
      ];
    };
    place = place;
    near = (let e : k + 1 - 1 ≡ k = omega arith in rw e same);
    low = λ i h. elim (cases_lt i k) [
      | inl lt ↦ low i lt
      | inr ge ↦ (let e : k ≡ i = omega arith in subst (λ m. IsNotAbove (keyed_at keyed m) head) e (same_not_above next head (same_sym head next same)))
    ];
    same = λ i h both. elim (cases_lt i k) [
      | inl lt ↦ kept i lt ∙ known i lt (same_trans (keyed_at keyed i) head next both same)
      | inr ge ↦ (let e : k ≡ i = omega arith in subst (λ m. get_or after (keyed_at keyed m).2 0 ≡ head.2) e here)
    ];
  }
    where
      after : List ℕ
      after = set leaders next.2 head.2

      here : get_or after next.2 0 ≡ head.2
      here = get_or-set_same leaders next.2 head.2 0 in_row

      kept : (i : ℕ) → i < k → get_or after (keyed_at keyed i).2 0 ≡ get_or leaders (keyed_at keyed i).2 0
      kept i lt = elim (cases_eq (keyed_at keyed i).2 next.2) [
        | inl e ↦ ap (λ m. get_or after m 0) e ∙ here ∙ sym (known i lt (once i k (omega arith) in_k e))
        | inr d ↦ get_or-set_other leaders next.2 (keyed_at keyed i).2 head.2 0 d
      ]

  -- the head so far is not above the row here
  up : (head : Keyed) → SameKey head (keyed_at keyed (k - 1)) → IsNotAbove head next
  unfolding next
  up head near = elim (cases_lt 0 k) [
    | inl some ↦ (let e : k - 1 + 1 ≡ k = omega arith in
        not_above_trans head (keyed_at keyed (k - 1)) (keyed_at keyed k) (same_not_above head (keyed_at keyed (k - 1)) near)
        (subst (λ m. IsNotAbove (keyed_at keyed (k - 1)) (keyed_at keyed m)) e (sorted (k - 1) (omega arith))))
    | inr none ↦ (let e : k - 1 ≡ k = omega arith in same_not_above head (keyed_at keyed k) (subst (λ m. SameKey head (keyed_at keyed m)) e near))
  ]

  pub leading_more : (head head' : Keyed) → IsLeading keyed leaders k head →
      (SameKey head (keyed_at keyed k) × (head' ≡ head)) ⊎ (¬ (SameKey head (keyed_at keyed k)) × (head' ≡ keyed_at keyed k)) →
      IsLeading keyed (set leaders (keyed_at keyed k).2 head'.2) (k + 1) head'
  unfolding next
  leading_more head head' x (inl y) =
      subst (λ (h : Keyed). IsLeading keyed (set leaders (keyed_at keyed k).2 h.2) (k + 1) h) (sym y.1)
      (step head x.led x.place y.0 (λ i lt both. x.same i lt (same_trans (keyed_at keyed i) next head both (same_sym head next y.0))) x.low)
  leading_more head head' x (inr y) =
      let rise = up head x.near in
      subst (λ (h : Keyed). IsLeading keyed (set leaders (keyed_at keyed k).2 h.2) (k + 1) h) (sym y.1)
      (step next x.led (k, in_k, refl) (refl, refl)
      (λ i lt both. absurd (y.0 (not_above_both head next rise
      (not_above_trans next (keyed_at keyed i) head (same_not_above next (keyed_at keyed i) (same_sym (keyed_at keyed i) next both)) (x.low i lt)))))
      (λ i lt. not_above_trans (keyed_at keyed i) head next (x.low i lt) rise))

-- what is sorted is not above what follows
pub sorted_keys : (x y : Keyed) → is_lt (key_cmp y x) ≡ false → IsNotAbove x y
sorted_keys x y h = elim (cases_order x.0 y.0) [
  | inl e ↦ elim (cases_order x.1 y.1) [
    | inl f ↦ inr (e, omega arith)
    | inr (inl lt) ↦ inr (e, omega arith)
    | inr (inr gt) ↦ absurd (false≢true (sym h ∙ ap (λ (o : Ordering). is_lt (ordering_then (ordering_then o (nat_cmp y.1 x.1)) (nat_cmp y.2 x.2))) (nat_cmp_equal y.0 x.0 (sym e))
        ∙ ap (λ (o : Ordering). is_lt (ordering_then (ordering_then Equal o) (nat_cmp y.2 x.2))) (nat_cmp_less y.1 x.1 gt)))
  ]
  | inr (inl lt) ↦ inl lt
  | inr (inr gt) ↦ absurd (false≢true (sym h ∙ ap (λ (o : Ordering). is_lt (ordering_then (ordering_then o (nat_cmp y.1 x.1)) (nat_cmp y.2 x.2))) (nat_cmp_less y.0 x.0 gt)))
]
  where
    nat_cmp_less : (a b : ℕ) → a < b → nat_cmp a b ≡ Less
    nat_cmp_less a b lt = cond-true (ltb a b) Less (cond (eqb a b) Equal Greater) (lt-ltb a b lt)

    nat_cmp_equal : (a b : ℕ) → a ≡ b → nat_cmp a b ≡ Equal
    nat_cmp_equal a b e = cond-false (ltb a b) Less (cond (eqb a b) Equal Greater) (le-ltb a b (omega arith)) ∙ cond-true (eqb a b) Equal Greater (eq-eqb a b e)
