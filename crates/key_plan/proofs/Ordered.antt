-- The slots in the order of a search.
use Rattle.std.proofs.Common.{List, [], ◌∷◌, ◌++◌, ℕ, zero, suc, Bool, true, false, Option, Some, None, IsSome, IfSome, AllPairs, Contains, get_or, length, slice_index, slice_index_or, ◌≡◌, ◌≢◌, ◌<◌, ◌≤◌, ◌+◌, ◌↔◌, ◌⊎◌, ◌==◌, eqb, eqb-true, eq-eqb, true≢false, inl, inr, refl, sym, ◌∙◌, ap, subst, arith, length-append, get_or-set_other, get_or-set_same}
use Rattle.std.specs.List.{list_any}
use Rattle.std.proofs.Math.ListN.{set, length-set}
use Rattle.std.proofs.lemmas.Bool.{cases_Bool, cases_lt, cases_eq, or_cases, or_left, or_right, and_parts, and_from}
use Rattle.std.proofs.lemmas.List.{get_or_append_left, get_or_at, get_or_default, get_or_past}
use Rattle.std.proofs.lemmas.Bool.Decides.{Decides-eqb}
use Rattle.std.proofs.lemmas.List.Folds.{Any-from_list_any, list_any_at}
use Rattle.std.proofs.lemmas.Map.Made.{IsDistinct-from_AllPairs}
use Rattle.std.proofs.lemmas.Map.Steps.{length-le_from_distinct_below, le-length_from_below}
use Rattle.std.proofs.lemmas.List.Elements.{Contains-push_cases}
use Rattle.std.proofs.lemmas.List.Quantifiers.{all_pairs_push}
use Rattle.chase_laws.specs.declared.pattern.Edge.{Edge}
use Rattle.chase_laws.specs.Shape.{Shape, PatternFacts, AreBeside, touches, marks, reached}
use Rattle.key_plan.specs.Order.{ComesFirst, IsBesideFirst, IsNoneOfFirst, IsOrder}
use Rattle.key_plan.specs.Making.{IsOpen, IsFirstBelow, IsBegun, IsListing}
use Rattle.key_plan.specs.Route.{AreInverse}
use Rattle.key_plan.proofs.Levels.{reached_slot, reached-zero, reached-next, length-marks}

contains_old : (xs : List ℕ) (y x : ℕ) → Contains xs x → Contains (xs ++ y ∷ []) x
contains_old xs y x c = (c.0, (let e = length-append xs (y ∷ []) in let h = c.1 in omega arith), get_or_append_left xs (y ∷ []) x c.0 c.1 ∙ c.2)

contains_new : (xs : List ℕ) (y : ℕ) → Contains (xs ++ y ∷ []) y
contains_new xs y = (length xs, (let e = length-append xs (y ∷ []) in let one : length (y ∷ []) ≡ 1 = refl in omega arith), get_or_at xs y [] y (length xs) refl)

-- each element by its place, whatever the default
contains_at : (xs : List ℕ) (k d : ℕ) → k < length xs → Contains xs (get_or xs k d)
contains_at xs k d h = (k, h, get_or_default xs k (get_or xs k d) d h)

-- ---- which slot comes first

comes_later : (Q : Shape) (r s t : ℕ) → ComesFirst Q r s → ComesFirst Q s t → ComesFirst Q r t
comes_later Q r s t h k = elim h [
  | inl l ↦ elim k [
    | inl m ↦ inl (omega arith)
    | inr m ↦ inl (let e = m.0 in omega arith)
  ]
  | inr l ↦ elim k [
    | inl m ↦ inl (let e = l.0 in omega arith)
    | inr m ↦ inr (l.0 ∙ m.0, (let e = l.1 in let f = m.1 in omega arith))
  ]
]

from_some : Option ℕ → ℕ
from_some (Some x) = x
from_some None = 0

some_same : (a b : ℕ) → Some a ≡ Some b → a ≡ b
unfolding from_some
some_same a b e = ap from_some e

is_none : Option ℕ → Bool
is_none (Some x) = false
is_none None = true

none_is_not : (r : ℕ) → ¬ (None ≡ Some r)
unfolding is_none
none_is_not r e = true≢false (ap is_none e)

-- one slot more, which is open
pub first_of_open : (Q : Shape) (ms : List Bool) (n : ℕ) (next : Option ℕ) (r : ℕ) → IsFirstBelow Q ms n next → IsOpen Q ms n → (r ≡ n) ⊎ (next ≡ Some r) →
    ComesFirst Q r n → IfSome next (ComesFirst Q r) → IsFirstBelow Q ms (n + 1) (Some r)
first_of_open Q ms n None r none is one first before = elim one [
  | inl e ↦ (
    subst (IsOpen Q ms) (sym e) is,
    omega arith,
    λ t l o. elim (cases_lt t n) [
      | inl less ↦ absurd (none t less o)
      | inr more ↦ (let same : n ≡ t = omega arith in subst (ComesFirst Q r) same first)
    ],
  )
  | inr e ↦ absurd (none_is_not r e)
]
first_of_open Q ms n (Some prior) r below is one first before = (
  elim one [
    | inl e ↦ subst (IsOpen Q ms) (sym e) is
    | inr e ↦ subst (IsOpen Q ms) (some_same prior r e) below.0
  ],
  elim one [
    | inl e ↦ omega arith
    | inr e ↦ (let same = some_same prior r e in let l = below.1 in omega arith)
  ],
  λ t l o. elim (cases_lt t n) [
    | inl less ↦ comes_later Q r prior t before (below.2 t less o)
    | inr more ↦ (let same : n ≡ t = omega arith in subst (ComesFirst Q r) same first)
  ],
)

-- one slot more, which is not
pub first_of_others : (Q : Shape) (ms : List Bool) (n : ℕ) (next : Option ℕ) → IsFirstBelow Q ms n next → ¬ (IsOpen Q ms n) → IsFirstBelow Q ms (n + 1) next
first_of_others Q ms n None none not_open = λ t l o. elim (cases_lt t n) [
  | inl less ↦ none t less o
  | inr more ↦ (let same : t ≡ n = omega arith in not_open (subst (IsOpen Q ms) same o))
]
first_of_others Q ms n (Some s) below not_open = (
  below.0,
  (let l = below.1 in omega arith),
  λ t l o. elim (cases_lt t n) [
    | inl less ↦ below.2 t less o
    | inr more ↦ (let same : t ≡ n = omega arith in absurd (not_open (subst (IsOpen Q ms) same o)))
  ],
)

-- ---- an edge with a marked slot

beside_of : (Q : Shape) (ms : List Bool) (s : ℕ) → list_any (touches ms s) Q.edges ≡ true → (r : ℕ) × (slice_index_or ms r false ≡ true) × AreBeside Q r s
beside_of Q ms s h =
    let a = Any-from_list_any (touches ms s) Q.edges h in
    let e : Edge = a.1 in
    let c : Contains Q.edges e = (a.0, a.2, a.3) in
    elim (or_cases _ _ a.4) [
      | inl k ↦ let p = and_parts _ _ k in (e.from, p.1, (e, c, inl (refl, eqb-true e.to s p.0)))
      | inr k ↦ let p = and_parts _ _ k in (e.to, p.1, (e, c, inr (eqb-true e.from s p.0, refl)))
    ]

touches_of : (Q : Shape) (ms : List Bool) (r s : ℕ) (e : Edge) → slice_index_or ms r false ≡ true → ((e.from ≡ r) × (e.to ≡ s)) ⊎ ((e.from ≡ s) × (e.to ≡ r)) → touches ms s e ≡ true
touches_of Q ms r s e marked ends = elim ends [
  | inl k ↦ or_left _ _ (and_from _ _ (eq-eqb e.to s k.1) (ap (λ q. slice_index_or ms q false) k.0 ∙ marked))
  | inr k ↦ or_right _ _ (and_from _ _ (eq-eqb e.from s k.0) (ap (λ q. slice_index_or ms q false) k.1 ∙ marked))
]

joined_of : (Q : Shape) (ms : List Bool) (r s : ℕ) → slice_index_or ms r false ≡ true → AreBeside Q r s → list_any (touches ms s) Q.edges ≡ true
joined_of Q ms r s marked beside =
    let e : Edge = beside.0 in
    let c = beside.1 in
    list_any_at (touches ms s) Q.edges c.0 e c.1 (subst (λ (x : Edge). touches ms s x ≡ true) (sym c.2) (touches_of Q ms r s e marked beside.2))

-- where no slot is open, all that is reached is marked
module _ (Q : Shape) (ms : List Bool) (begun : slice_index_or ms 0 false ≡ true) (none : (s : ℕ) → s < length Q.slots → ¬ (IsOpen Q ms s)) where
  reached_marked : (n s : ℕ) → reached Q n s ≡ true → slice_index_or ms s false ≡ true
  reached_marked zero s h =
      let at : s ≡ 0 = eqb-true s 0 (sym (reached-zero Q s (reached_slot Q 0 s h)) ∙ h) in
      subst (λ q. slice_index_or ms q false ≡ true) (sym at) begun
  reached_marked (suc n) s h =
      let l = reached_slot Q (suc n) s h in
      elim (or_cases (reached Q n s) (list_any (touches (marks Q n) s) Q.edges) (sym (reached-next Q n s l) ∙ h)) [
        | inl k ↦ reached_marked n s k
        | inr k ↦
            (let b = beside_of Q (marks Q n) s k in
            elim (cases_Bool (slice_index_or ms s false)) [
              | inl is ↦ is
              | inr isn't ↦ absurd (none s l (record { within = l; unmarked = isn't; joined = joined_of Q ms b.0 s (reached_marked n b.0 b.1) b.2 }))
            ])
      ]

  pub all_marked : PatternFacts Q → (s : ℕ) → s < length Q.slots → slice_index_or ms s false ≡ true
  all_marked facts s l = reached_marked (length Q.slots) s (facts.connected s l)

pub is_some : (Q : Shape) (ms : List Bool) (next : Option ℕ) → PatternFacts Q → slice_index_or ms 0 false ≡ true →
    ¬ ((s : ℕ) → s < length Q.slots → slice_index_or ms s false ≡ true) → IsFirstBelow Q ms (length Q.slots) next → IsSome next
is_some Q ms (Some s) facts begun left below = refl
is_some Q ms None facts begun left none = absurd (left (all_marked Q ms begun none facts))

-- ---- the order, slot by slot

module _ (Q : Shape) (ms : List Bool) (order : List ℕ) (begun : IsBegun Q ms order) where
  contains_below : (s : ℕ) → Contains order s → s < length Q.slots
  contains_below s c = elim (cases_lt s (length Q.slots)) [
    | inl l ↦ l
    | inr past ↦ absurd (true≢false (sym ((begun.marked s).0 c) ∙ get_or_past ms s false (let e = begun.one_each in omega arith)))
  ]

  pub zero_marked : slice_index_or ms 0 false ≡ true
  zero_marked = (begun.marked 0).0 (0, begun.some, begun.first)

  pub not_all_marked : length order < length Q.slots → ¬ ((s : ℕ) → s < length Q.slots → slice_index_or ms s false ≡ true)
  not_all_marked less all =
      let least = le-length_from_below order (length Q.slots)
      (λ q h. let c = (begun.marked q).1 (all q h) in list_any_at (eqb q) order c.0 q c.1 (eq-eqb q (get_or order c.0 q) (sym c.2))) in
      omega arith

  distinct_short : (xs : List ℕ) → AllPairs (λ s t. s ≢ t) xs → ((s : ℕ) → Contains xs s → s < length Q.slots) → length xs ≤ length Q.slots
  distinct_short xs differ within = length-le_from_distinct_below xs (length Q.slots) (IsDistinct-from_AllPairs Decides-eqb xs differ)
      (λ q h. let a = Any-from_list_any (eqb q) xs h in within q (a.0, a.2, get_or_default xs a.0 q a.1 a.2 ∙ a.3 ∙ sym (eqb-true q a.1 a.4)))

  -- a slot that is not marked differs from all before
  differs_from : (s : ℕ) → slice_index_or ms s false ≡ false → (k d : ℕ) → k < length order → get_or order k d ≢ s
  differs_from s unmarked k d h e = true≢false (sym ((begun.marked s).0 (subst (Contains order) e (contains_at order k d h))) ∙ unmarked)

  with_one : (s : ℕ) → slice_index_or ms s false ≡ false → AllPairs (λ a b. a ≢ b) (order ++ s ∷ [])
  with_one s unmarked = all_pairs_push (λ a b. a ≢ b) order s begun.different (λ k d h. differs_from s unmarked k d h)

  module _ (s : ℕ) (next : IsFirstBelow Q ms (length Q.slots) (Some s)) where
    abbrev pub more : List ℕ
    more = order ++ s ∷ []

    at_old : (i : ℕ) → i < length order → slice_index more i ≡ slice_index order i
    at_old i l = get_or_append_left order (s ∷ []) 0 i l

    at_new : slice_index more (length order) ≡ s
    at_new = get_or_at order s [] 0 (length order) refl

    length_more : length more ≡ length order + 1
    length_more = length-append order (s ∷ [])

    marked_more : (t : ℕ) → Contains more t ↔ (slice_index_or (set ms s true) t false ≡ true)
    marked_more t = (
      (λ c. elim (cases_eq t s) [
        | inl e ↦ ap (λ q. slice_index_or (set ms s true) q false) e ∙ get_or-set_same ms s true false (let n = begun.one_each in let w = next.0.within in omega arith)
        | inr ne ↦ get_or-set_other ms s t true false ne ∙ elim (Contains-push_cases order s t c) [
          | inl old ↦ (begun.marked t).0 old
          | inr new ↦ absurd (ne (sym new))
        ]
      ]),
      (λ h. elim (cases_eq t s) [
        | inl e ↦ subst (Contains more) (sym e) (contains_new order s)
        | inr ne ↦ contains_old order s t ((begun.marked t).1 (sym (get_or-set_other ms s t true false ne) ∙ h))
      ]),
    )

    beside_before : (k t : ℕ) → k ≤ length order → IsBesideFirst Q order k t → IsBesideFirst Q more k t
    beside_before k t le b = (b.0, b.1, subst (λ r. AreBeside Q r t) (sym (at_old b.0 (let l = b.1 in omega arith))) b.2)

    beside_after : (k t : ℕ) → k ≤ length order → IsBesideFirst Q more k t → IsBesideFirst Q order k t
    beside_after k t le b = (b.0, b.1, subst (λ r. AreBeside Q r t) (at_old b.0 (let l = b.1 in omega arith)) b.2)

    none_after : (k t : ℕ) → k ≤ length order → IsNoneOfFirst more k t → IsNoneOfFirst order k t
    none_after k t le none = λ j l e. none j l (at_old j (omega arith) ∙ e)

    joined_new : IsBesideFirst Q order (length order) s
    joined_new =
        let b = beside_of Q ms s next.0.joined in
        let c = (begun.marked b.0).1 b.1 in
        (c.0, c.1, subst (λ r. AreBeside Q r s) (sym (get_or_default order c.0 0 b.0 c.1 ∙ c.2)) b.2)

    least_new : (t : ℕ) → t < length Q.slots → IsNoneOfFirst order (length order) t → IsBesideFirst Q order (length order) t → ComesFirst Q s t
    least_new t l none b = next.2 t l (record {
      within = l;
      unmarked = elim (cases_Bool (slice_index_or ms t false)) [
        | inl is ↦ (let c = (begun.marked t).1 is in absurd (none c.0 c.1 (get_or_default order c.0 0 t c.1 ∙ c.2)))
        | inr isn't ↦ isn't
      ];
      joined = joined_of Q ms (slice_index order b.0) t ((begun.marked _).0 (contains_at order b.0 0 b.1)) b.2;
    })

    pub begun_more : IsBegun Q (set ms s true) more
    begun_more = record {
      one_each = length-set ms s true ∙ begun.one_each;
      marked = marked_more;
      different = with_one s next.0.unmarked;
      some = let e = length_more in omega arith;
      first = at_old 0 begun.some ∙ begun.first;
      joined = λ k l ne. elim (cases_lt k (length order)) [
        | inl old ↦ subst (IsBesideFirst Q more k) (sym (at_old k old)) (beside_before k _ (omega arith) (begun.joined k old ne))
        | inr new ↦
            (let e : length order ≡ k = (let m = length_more in omega arith) in
            subst (λ j. IsBesideFirst Q more j (slice_index more j)) e (subst (IsBesideFirst Q more (length order)) (sym at_new) (beside_before (length order) s (omega arith) joined_new)))
      ];
      least = λ k l ne t within none beside. elim (cases_lt k (length order)) [
        | inl old ↦ subst (λ r. ComesFirst Q r t) (sym (at_old k old)) (begun.least k old ne t within (none_after k t (omega arith) none) (beside_after k t (omega arith) beside))
        | inr new ↦
            (let e : k ≡ length order = (let m = length_more in omega arith) in
            let none_old = subst (λ j. IsNoneOfFirst order j t) e (none_after k t (omega arith) none) in
            let beside_old = subst (λ j. IsBesideFirst Q order j t) e (beside_after k t (omega arith) beside) in
            subst (λ r. ComesFirst Q r t) (sym (ap (slice_index more) e ∙ at_new)) (least_new t within none_old beside_old))
      ];
    }

  module _ (facts : PatternFacts Q) (whole : length Q.slots ≤ length order) where
    long : length order ≡ length Q.slots
    long = let most = distinct_short order begun.different contains_below in omega arith

    every : (s : ℕ) → Contains order s ↔ (s < length Q.slots)
    every s = (
      contains_below s,
      (λ l. elim (cases_Bool (slice_index_or ms s false)) [
        | inl is ↦ (begun.marked s).1 is
        | inr isn't ↦
            (let most = distinct_short (order ++ s ∷ []) (with_one s isn't)
            (λ t c. elim (Contains-push_cases order s t c) [
              | inl old ↦ contains_below t old
              | inr new ↦ subst (λ (x : ℕ). x < length Q.slots) new l
            ]) in
            let e = length-append order (s ∷ []) in
            let one : length (s ∷ []) ≡ 1 = refl in absurd (omega arith))
      ]),
    )

    pub order_of : IsOrder Q order
    order_of = record { one_each = long; slots = every; first = begun.first; joined = begun.joined; least = begun.least }

    pub listing_of : IsListing order
    listing_of = record {
      few = (let e = long in let f = facts.few_slots in omega arith);
      every = λ s. ((λ c. let h = (every s).0 c in let e = long in omega arith), (λ l. (every s).1 (let e = long in omega arith)));
      different = begun.different;
    }

-- slot 0 alone
pub begun_first : (Q : Shape) (ms : List Bool) → ms ≡ marks Q 0 → 0 < length Q.slots → IsBegun Q ms (0 ∷ [])
begun_first Q ms e some =
    let at : (s : ℕ) → s < length Q.slots → slice_index_or ms s false ≡ (s == 0) = λ s l. ap (λ xs. slice_index_or xs s false) e ∙ reached-zero Q s l in
    record {
      one_each = ap length e ∙ length-marks Q 0;
      marked = λ s. (
        (λ c. elim (Contains-push_cases [] 0 s c) [
          | inl old ↦ absurd (let h = old.1 in omega arith)
          | inr new ↦ subst (λ q. slice_index_or ms q false ≡ true) new (at 0 some)
        ]),
        (λ h. let reach : reached Q 0 s ≡ true = sym (ap (λ xs. slice_index_or xs s false) e) ∙ h in
            let zero_is : s ≡ 0 = eqb-true s 0 (sym (reached-zero Q s (reached_slot Q 0 s reach)) ∙ reach) in
            subst (Contains (0 ∷ [])) (sym zero_is) (contains_new [] 0)),
      );
      different = λ i j d l h. absurd (omega arith);
      some = omega arith;
      first = refl;
      joined = λ k l ne. absurd (ne (omega arith));
      least = λ k l ne. absurd (ne (omega arith));
    }

-- the places of an order's slots
pub inverse_of : (order place : List ℕ) → IsListing order → length place ≡ length order → ((k : ℕ) → k < length order → slice_index place (slice_index order k) ≡ k) → AreInverse order place
inverse_of order place listing long each = record {
  as_long = long;
  place_of = each;
  within = λ s l. let c = (listing.every s).1 l in
      let e : slice_index place s ≡ c.0 = ap (slice_index place) (sym c.2 ∙ get_or_default order c.0 s 0 c.1) ∙ each c.0 c.1 in let h = c.1 in omega arith;
  slot_at = λ s l. let c = (listing.every s).1 l in
      let at : slice_index order c.0 ≡ s = sym (get_or_default order c.0 s 0 c.1) ∙ c.2 in
      ap (λ k. slice_index order (slice_index place k)) (sym at) ∙ ap (slice_index order) (each c.0 c.1) ∙ at;
}
