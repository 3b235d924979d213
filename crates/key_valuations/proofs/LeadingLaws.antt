-- Leading values of valuations.
use Rattle.std.proofs.Common.{List, [], ◌∷◌, ◌++◌, ℕ, zero, suc, Bool, true, false, cond, Option, Some, None, All, Contains, set, take, slice_get, slice_index, get_or, length, ◌≡◌, ◌<◌, ◌≤◌, ◌+◌, ◌⊎◌, inl, inr, refl, sym, ◌∙◌, ap, ap₂, subst, arith, length-append}
use Rattle.std.specs.List.{flat_map, range_with_len}
use Rattle.std.proofs.lemmas.Bool.{cases_eq}
use Rattle.std.proofs.lemmas.List.{take_more, get_or-map, length-map, get_or_default, get_or-set_same, get_or-set_other}
use Rattle.std.proofs.lemmas.List.Elements.{All-contains}
use Rattle.std.proofs.lemmas.Option.{slice_get_within}
use Rattle.chase_laws.specs.declared.pattern.Slot.{Slot}
use Rattle.chase_laws.specs.declared.pattern.Slot.TheVariants.{Entity, Any as AnyOf, Value, Folded, Fixed}
use Rattle.chase_laws.specs.declared.pattern.Edge.{Edge}
use Rattle.chase_laws.specs.Shape.{Shape}
use Rattle.chase_laws.specs.Graph.{NumberedGraph, HasRow, IsLiteral}
use Rattle.chase_laws.specs.Valuation.{IsValuation, FitsSlot}
use Rattle.chase_laws.specs.Signature.{value_at, values_of}
use Rattle.key_plan.specs.Route.{Route, IsPlanOf}
use Rattle.valuation_groups.specs.Rows.{KeyRows}
use Rattle.key_valuations.specs.Marks.{IsMarked, HasMark, AreMarkedBySlots, mark_at}
use Rattle.key_valuations.specs.Listing.{AreAlikeInValues}
use Rattle.key_valuations.specs.declared.leading.Leading.{Leading}
use Rattle.key_valuations.specs.Leading.{IsLeading, leading_value, leading_values, leading_parts, IsLed, IsLedBy, IsAloneAt, AddsLed}
use Rattle.key_valuations.proofs.MarkLaws.{value_piece}
use Rattle.key_valuations.proofs.PartLaws.{some_same}
use Rattle.key_valuations.proofs.CompleteLaws.{contains_more}

-- ---- equal values are equal at each slot

append_split : (xs ys us vs : List ℕ) → length xs ≡ length ys → xs ++ us ≡ ys ++ vs → (xs ≡ ys) × (us ≡ vs)
append_split [] [] us vs n h = (refl, h)
append_split [] (y ∷ ys) us vs n h = absurd (omega arith)
append_split (x ∷ xs) [] us vs n h = absurd (omega arith)
append_split (x ∷ xs) (y ∷ ys) us vs n h =
    let first : x ≡ y = cc in
    let others : xs ++ us ≡ ys ++ vs = cc in
    let r = append_split xs ys us vs (omega arith) others in
    let both : x ∷ xs ≡ y ∷ ys = ap (λ z. z ∷ xs) first ∙ ap (λ zs. y ∷ zs) r.0 in
    (both, r.1)

pieces_equal : (f g : ℕ → List ℕ) (k n : ℕ) → ((s : ℕ) → length (f s) ≡ length (g s)) → flat_map f (range_with_len k n) ≡ flat_map g (range_with_len k n) →
    (s : ℕ) → s < n → f (k + s) ≡ g (k + s)
pieces_equal f g k zero same h s lt = absurd (omega arith)
pieces_equal f g k (suc n) same h zero lt =
    let e : k + 0 ≡ k = omega arith in
    rw e ((append_split (f k) (g k) (flat_map f (range_with_len (k + 1) n)) (flat_map g (range_with_len (k + 1) n)) (same k) h).0)
pieces_equal f g k (suc n) same h (suc s) lt =
    let e : (k + 1) + s ≡ k + suc s = omega arith in
    let others = (append_split (f k) (g k) (flat_map f (range_with_len (k + 1) n)) (flat_map g (range_with_len (k + 1) n)) (same k) h).1 in
    subst (λ m. f m ≡ g m) e (pieces_equal f g (k + 1) n same others s (omega arith))

value_count : (G : NumberedGraph) (slot : Option Slot) (m n : ℕ) → length (value_at G slot m) ≡ length (value_at G slot n)
value_count G (Some (Entity t)) m n = refl
value_count G (Some (AnyOf t)) m n = refl
value_count G (Some Value) m n = refl
value_count G (Some Folded) m n = refl
value_count G (Some (Fixed c)) m n = refl
value_count G None m n = refl

same_value : (G : NumberedGraph) (Q : Shape) (v w : List ℕ) → values_of G Q v ≡ values_of G Q w → (s : ℕ) → s < length Q.slots → value_piece G Q v s ≡ value_piece G Q w s
same_value G Q v w h s within =
    let zero_more : 0 + s ≡ s = omega arith in
    subst (λ (i : ℕ). value_piece G Q v i ≡ value_piece G Q w i) zero_more
    (pieces_equal (value_piece G Q v) (value_piece G Q w) 0 (length Q.slots) (λ i. value_count G (slice_get Q.slots i) (slice_index v i) (slice_index w i)) h s within)

single : (a b : ℕ) → a ∷ [] ≡ b ∷ [] → a ≡ b
single a b h = cc

by_kind : (G : NumberedGraph) (folded : Bool) (m n : ℕ) → value_at G (Some (cond folded Folded Value)) m ≡ value_at G (Some (cond folded Folded Value)) n →
    cond folded (slice_index G.alike m) m ≡ cond folded (slice_index G.alike n) n
by_kind G true m n h = single (slice_index G.alike m) (slice_index G.alike n) h
by_kind G false m n h = single m n h

literal_by : (G : NumberedGraph) (folded : Bool) (n : ℕ) → FitsSlot G (cond folded Folded Value) n → IsLiteral G n
literal_by G true n h = h
literal_by G false n h = h

module _ (G : NumberedGraph) (Q : Shape) where
  -- valuations of the same values have the same leading value at each leading slot
  pub same_leading : (lead : Leading) → IsLeading Q lead → (v w : List ℕ) → AreAlikeInValues G Q v w → leading_value G lead (slice_index v lead.slot) ≡ leading_value G lead (slice_index w lead.slot)
  same_leading lead is v w alike =
      let within = slice_get_within Q.slots lead.slot (cond lead.folded Folded Value) is.kind in
      by_kind G lead.folded (slice_index v lead.slot) (slice_index w lead.slot)
      (subst (λ (o : Option Slot). value_at G o (slice_index v lead.slot) ≡ value_at G o (slice_index w lead.slot)) is.kind (same_value G Q v w alike.values lead.slot within))

  pub same_leadings : (leading : List Leading) → All (IsLeading Q) leading → (v w : List ℕ) → AreAlikeInValues G Q v w → leading_values G leading v ≡ leading_values G leading w
  same_leadings [] all v w alike = refl
  same_leadings (lead ∷ leading) all v w alike =
      ap₂ (λ (x : ℕ) (xs : List ℕ). x ∷ xs) (same_leading lead (all 0 lead (omega arith)) v w alike) (same_leadings leading (λ k d h. all (suc k) d (omega arith)) v w alike)

  -- the number at a leading slot is a literal, and the name has it under the predicate
  pub leading_literal : (lead : Leading) → IsLeading Q lead → (v : List ℕ) → IsValuation G Q v → IsLiteral G (slice_index v lead.slot)
  leading_literal lead is v x = literal_by G lead.folded (slice_index v lead.slot) (x.kinds lead.slot (cond lead.folded Folded Value) is.kind)

  pub leading_row : (lead : Leading) → IsLeading Q lead → (v : List ℕ) → IsValuation G Q v → HasRow G (slice_index v 0) lead.pred (slice_index v lead.slot)
  leading_row lead is v x =
      let e = is.edge.0 in
      let row = All-contains (λ (e : Edge). HasRow G (slice_index v e.from) e.pred (slice_index v e.to)) Q.edges e x.edges is.edge.1 in
      subst (λ (n : ℕ). HasRow G (slice_index v 0) lead.pred (slice_index v n)) is.edge.4
      (subst (λ (p : ℕ). HasRow G (slice_index v 0) p (slice_index v e.to)) is.edge.3 (subst (λ (n : ℕ). HasRow G (slice_index v n) e.pred (slice_index v e.to)) is.edge.2 row))

  -- a literal that is alone is that of no valuation whose values another name has
  pub not_alone : (lead : Leading) → IsLeading Q lead → (v : List ℕ) → IsLed G Q v → IsAloneAt G lead (slice_index v lead.slot) → ⊥
  not_alone lead is v led alone =
      let w = led.0 in
      let alike = led.1 in
      let same : slice_index v lead.slot ≡ slice_index w lead.slot = subst (λ (folded : Bool). cond folded (slice_index G.alike (slice_index v lead.slot)) (slice_index v lead.slot) ≡ cond folded (slice_index G.alike (slice_index w lead.slot)) (slice_index w lead.slot)) alone.0 (same_leading lead is v w alike) in
      alike.apart (alone.1 (slice_index v 0) (slice_index w 0) (leading_row lead is v alike.left)
      (subst (HasRow G (slice_index w 0) lead.pred) (sym same) (leading_row lead is w alike.right)))

-- at most one name in a short list
pub only_name : (xs : List ℕ) (m n : ℕ) → length xs ≤ 1 → Contains xs m → Contains xs n → m ≡ n
only_name xs m n few a b =
    let i = a.1 in
    let j = b.1 in
    let e : a.0 ≡ b.0 = omega arith in
    sym a.2 ∙ ap (λ (k : ℕ). get_or xs k m) e ∙ get_or_default xs b.0 m n j ∙ b.2

-- ---- choices of leading values

-- a valuation that is led so, whose literal at a leading slot is one of a list
pub record IsLedAmong (G : NumberedGraph) (Q : Shape) (leading : List Leading) (lead : Leading) (name : ℕ) (front literals v : List ℕ) : Type 0 where
  pub by : IsLedBy G Q leading name front v
  pub among : Contains literals (slice_index v lead.slot)

module _ (G : NumberedGraph) (leading : List Leading) where
  pub led_none : (A : List ℕ → Type 0) (rows : KeyRows) → ((v : List ℕ) → A v → ⊥) → AddsLed G leading A rows rows
  led_none A rows none = record { key = refl; value_count = refl; image_count = refl; kept = λ p h. h; every = λ v a. absurd (none v a) }

  pub led_then : (A B C : List ℕ → Type 0) (old mid new : KeyRows) → AddsLed G leading A old mid → AddsLed G leading B mid new → ((v : List ℕ) → C v → A v ⊎ B v) → AddsLed G leading C old new
  led_then A B C old mid new first second split = record {
    key = second.key ∙ first.key;
    value_count = second.value_count ∙ first.value_count;
    image_count = second.image_count ∙ first.image_count;
    kept = λ p h. second.kept p (first.kept p h);
    every = λ v c. elim (split v c) [
      | inl x ↦ second.kept (leading_parts G leading old.key v) (first.every v x)
      | inr y ↦ subst (λ (key : ℕ). Contains new.parts (leading_parts G leading key v)) first.key (second.every v y)
    ];
  }

  pub led_weaker : (A B : List ℕ → Type 0) (old new : KeyRows) → ((v : List ℕ) → B v → A v) → AddsLed G leading A old new → AddsLed G leading B old new
  led_weaker A B old new f x = record { key = x.key; value_count = x.value_count; image_count = x.image_count; kept = x.kept; every = λ v b. x.every v (f v b) }

at_is : (xs : List Leading) (k : ℕ) (x : Leading) → slice_get xs k ≡ Some x → get_or xs k x ≡ x
at_is [] k x h = absurd (cc)
at_is (y ∷ ys) zero x h = cc
at_is (y ∷ ys) (suc k) x h = at_is ys k x h

-- the leading value at a place
pub leading_is : (G : NumberedGraph) (leading : List Leading) (lead : Leading) (v : List ℕ) (at : ℕ) → slice_get leading at ≡ Some lead → get_or (leading_values G leading v) at 0 ≡ leading_value G lead (slice_index v lead.slot)
leading_is G leading lead v at here =
    let f : Leading → ℕ = λ lead. leading_value G lead (slice_index v lead.slot) in
    get_or-map f leading at lead 0 (slice_get_within leading at lead here) ∙ ap f (at_is leading at lead here)

-- the next leading value
next_leading : (G : NumberedGraph) (leading : List Leading) (lead : Leading) (front v : List ℕ) → slice_get leading (length front) ≡ Some lead → take (length front) (leading_values G leading v) ≡ front →
    take (length front + 1) (leading_values G leading v) ≡ front ++ leading_value G lead (slice_index v lead.slot) ∷ []
next_leading G leading lead front v at begins =
    let within = slice_get_within leading (length front) lead at in
    let long : length (leading_values G leading v) ≡ length leading = length-map leading (λ (lead : Leading). leading_value G lead (slice_index v lead.slot)) in
    take_more (leading_values G leading v) (length front) 0 (omega arith) ∙ ap₂ (λ (xs : List ℕ) (x : ℕ). xs ++ x ∷ []) begins (leading_is G leading lead v (length front) at)

-- ---- marks of leading values

mark_by : (G : NumberedGraph) (folded : Bool) (n : ℕ) → HasMark G (cond folded Folded Value) (cond folded (slice_index G.alike n) n) n
mark_by G true n = refl
mark_by G false n = refl

pub marks_led : (Q : Shape) (R : Route) → IsPlanOf Q R → (lead : Leading) → IsLeading Q lead → (marks : List (Option ℕ)) (value : ℕ) → slice_index R.place lead.slot < length marks →
    (G : NumberedGraph) (v : List ℕ) → leading_value G lead (slice_index v lead.slot) ≡ value → AreMarkedBySlots G Q R.place marks v → AreMarkedBySlots G Q R.place (set marks (slice_index R.place lead.slot) (Some value)) v
marks_led Q R plan lead is marks value within G v e before s slot at = elim (cases_eq (slice_index R.place s) (slice_index R.place lead.slot)) [
  | inl same ↦
      (let n = plan.order.one_each in
      let in_s = slice_get_within Q.slots s slot at in
      let in_lead = slice_get_within Q.slots lead.slot (cond lead.folded Folded Value) is.kind in
      let one : s ≡ lead.slot = sym (plan.places.slot_at s (omega arith)) ∙ ap (slice_index R.order) same ∙ plan.places.slot_at lead.slot (omega arith) in
      let kind : cond lead.folded Folded Value ≡ slot = some_same (cond lead.folded Folded Value) slot (sym is.kind ∙ ap (slice_get Q.slots) (sym one) ∙ at) in
      let here : mark_at (set marks (slice_index R.place lead.slot) (Some value)) (slice_index R.place lead.slot) ≡ Some value = rw get_or-set_same refl in
      subst (λ (k : ℕ). IsMarked G slot (mark_at (set marks (slice_index R.place lead.slot) (Some value)) k) (slice_index v s)) (sym same)
      (subst (λ (o : Option ℕ). IsMarked G slot o (slice_index v s)) (sym here)
      (subst (λ (t : ℕ). HasMark G slot value (slice_index v t)) (sym one)
      (subst (λ (x : ℕ). HasMark G slot x (slice_index v lead.slot)) e
      (subst (λ (z : Slot). HasMark G z (leading_value G lead (slice_index v lead.slot)) (slice_index v lead.slot)) kind (mark_by G lead.folded (slice_index v lead.slot)))))))
  | inr ne ↦
      (let kept : mark_at (set marks (slice_index R.place lead.slot) (Some value)) (slice_index R.place s) ≡ mark_at marks (slice_index R.place s) = rw get_or-set_other refl in
      subst (λ (o : Option ℕ). IsMarked G slot o (slice_index v s)) (sym kept) (before s slot at))
]

-- ---- one literal more

module _ (G : NumberedGraph) (Q : Shape) (leading : List Leading) (lead : Leading) (is : IsLeading Q lead) (name : ℕ) (front : List ℕ) (at : slice_get leading (length front) ≡ Some lead) where
  next_led : (v : List ℕ) (x y : ℕ) → y ≡ leading_value G lead x → x ≡ slice_index v lead.slot → IsLedBy G Q leading name front v → IsLedBy G Q leading name (front ++ y ∷ []) v
  next_led v x y e same by = record {
    led = by.led;
    name = by.name;
    begins =
        let whole : leading_value G lead (slice_index v lead.slot) ≡ y = ap (leading_value G lead) (sym same) ∙ sym e in
        ap (λ (n : ℕ). take n (leading_values G leading v)) (length-append front (y ∷ [])) ∙ next_leading G leading lead front v at by.begins ∙ ap (λ (z : ℕ). front ++ z ∷ []) whole;
  }

  module _ (literals : List ℕ) (i : ℕ) (within : i < length literals) (old mid : KeyRows) (before : AddsLed G leading (IsLedAmong G Q leading lead name front (take i literals)) old mid) where
    pub led_more : (new : KeyRows) (y : ℕ) → y ≡ leading_value G lead (get_or literals i 0) → AddsLed G leading (IsLedBy G Q leading name (front ++ y ∷ [])) mid new →
        AddsLed G leading (IsLedAmong G Q leading lead name front (take (i + 1) literals)) old new
    led_more new y e more = led_then G leading (IsLedAmong G Q leading lead name front (take i literals)) (IsLedBy G Q leading name (front ++ y ∷ [])) (IsLedAmong G Q leading lead name front (take (i + 1) literals)) old mid new before more
        (λ v r. elim (contains_more literals i (slice_index v lead.slot) 0 within r.among) [
          | inl old ↦ inl (record { by = r.by; among = old })
          | inr new ↦ inr (next_led v (get_or literals i 0) y e new r.by)
        ])

    -- a literal that no other name may have
    pub led_skip : (IsLiteral G (get_or literals i 0) → IsAloneAt G lead (get_or literals i 0)) → AddsLed G leading (IsLedAmong G Q leading lead name front (take (i + 1) literals)) old mid
    led_skip alone = led_weaker G leading (IsLedAmong G Q leading lead name front (take i literals)) (IsLedAmong G Q leading lead name front (take (i + 1) literals)) old mid
        (λ v r. elim (contains_more literals i (slice_index v lead.slot) 0 within r.among) [
          | inl old ↦ record { by = r.by; among = old }
          | inr new ↦ absurd (not_alone G Q lead is v r.by.led (subst (IsAloneAt G lead) new (alone (subst (IsLiteral G) (sym new) (leading_literal G Q lead is v r.by.led.1.left)))))
        ]) before

  -- all literals of the name were tried
  pub led_done : (literals : List ℕ) (old new : KeyRows) → ((o : ℕ) → HasRow G name lead.pred o → Contains literals o) → AddsLed G leading (IsLedAmong G Q leading lead name front literals) old new → AddsLed G leading (IsLedBy G Q leading name front) old new
  led_done literals old new all x = led_weaker G leading (IsLedAmong G Q leading lead name front literals) (IsLedBy G Q leading name front) old new
      (λ v by. record { by = by; among = all (slice_index v lead.slot) (subst (λ (n : ℕ). HasRow G n lead.pred (slice_index v lead.slot)) by.name (leading_row G Q lead is v by.led.1.left)) }) x
