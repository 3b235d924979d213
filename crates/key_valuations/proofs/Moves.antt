-- A pattern under other numbers.
use Rattle.std.proofs.Common.{List, ℕ, Contains, All, get_or, map, length, slice_get, slice_index, ◌≡◌, ◌<◌, inl, inr, sym, ◌∙◌, ap, ap₂, subst, arith}
use Rattle.std.proofs.lemmas.Bool.{cases_order}
use Rattle.std.proofs.lemmas.List.{get_or-map, length-map, get_or_default}
use Rattle.std.proofs.lemmas.List.Elements.{All-contains, All-map, Contains-get_or}
use Rattle.std.proofs.lemmas.Option.{slice_get_within}
use Rattle.chase_laws.specs.declared.pattern.Slot.TheVariants as slot
use Rattle.chase_laws.specs.declared.pattern.Edge.{Edge}
use Rattle.chase_laws.specs.Shape.{Shape, PatternFacts}
use Rattle.chase_laws.specs.Graph.{NumberedGraph, HasRow}
use Rattle.chase_laws.specs.Valuation.{IsValuation, FitsSlot}
use Rattle.key_plan.specs.Route.{Route, moved, IsPlanOf}
use Rattle.key_valuations.specs.Part.{IsPlaced, IsReady}

-- slot s of Q is slot f s of P
pub record IsMove (Q P : Shape) (f : ℕ → ℕ) : Type 0 where
  pub as_long : length P.slots ≡ length Q.slots
  pub within : (s : ℕ) → s < length Q.slots → f s < length Q.slots
  pub apart : (s t : ℕ) → s < length Q.slots → t < length Q.slots → f s ≡ f t → s ≡ t
  pub first : f 0 ≡ 0
  pub slots : (s : ℕ) → s < length Q.slots → slice_get Q.slots s ≡ slice_get P.slots (f s)
  pub ends : All (λ e. (e.from < length Q.slots) × (e.to < length Q.slots)) Q.edges
  pub edges : All (λ e. Contains P.edges (record { from = f e.from; pred = e.pred; to = f e.to })) Q.edges

contains_map : (f : Edge → Edge) (xs : List Edge) (x : Edge) → Contains xs x → Contains (map f xs) (f x)
contains_map f xs x c = (c.0, (let e = length-map xs f in let h = c.1 in omega arith), get_or-map f xs c.0 x (f x) c.1 ∙ ap f c.2)

-- from a pattern to its plan, and back
module _ (Q : Shape) (R : Route) (facts : PatternFacts Q) (plan : IsPlanOf Q R) where
  place_within : (s : ℕ) → s < length Q.slots → slice_index R.place s < length Q.slots
  place_within s h = let n = plan.order.one_each in let k = plan.places.within s (omega arith) in omega arith

  slot_within : (k : ℕ) → k < length Q.slots → slice_index R.order k < length Q.slots
  slot_within k h = let n = plan.order.one_each in (plan.order.slots (slice_index R.order k)).0 (Contains-get_or R.order k 0 (omega arith))

  back_again : (s : ℕ) → s < length Q.slots → slice_index R.order (slice_index R.place s) ≡ s
  back_again s h = let n = plan.order.one_each in plan.places.slot_at s (omega arith)

  there_again : (k : ℕ) → k < length Q.slots → slice_index R.place (slice_index R.order k) ≡ k
  there_again k h = let n = plan.order.one_each in plan.places.place_of k (omega arith)

  pub place_at : (k : ℕ) → k < length Q.slots → slice_index R.place (slice_index R.order k) ≡ k
  place_at k h = there_again k h

  some_slot : 0 < length Q.slots
  some_slot = slice_get_within Q.slots 0 (slot.Entity facts.first.0) facts.first.1

  pub there : IsMove Q R.shape (slice_index R.place)
  there = record {
    as_long = plan.as_many;
    within = place_within;
    apart = λ s t h k e. sym (back_again s h) ∙ ap (slice_index R.order) e ∙ back_again t k;
    first = ap (slice_index R.place) (sym plan.first) ∙ there_again 0 some_slot;
    slots = λ s h. ap (slice_get Q.slots) (sym (back_again s h)) ∙ sym (plan.slots (slice_index R.place s) (place_within s h));
    ends = facts.ends;
    edges = λ k d h. subst (λ (es : List Edge). Contains es (moved R.place (get_or Q.edges k d))) (sym plan.edges) (contains_map (moved R.place) Q.edges (get_or Q.edges k d) (Contains-get_or Q.edges k d h));
  }

  moved_back : (e : Edge) → (e.from < length Q.slots) × (e.to < length Q.slots) → let f = moved R.place e in
      let g : Edge = record { from = slice_index R.order f.from; pred = f.pred; to = slice_index R.order f.to } in g ≡ e
  moved_back e h = ap₂ (λ from to. let g : Edge = record { from = from; pred = e.pred; to = to } in g) (back_again e.from h.0) (back_again e.to h.1)

  -- the ends of the plan's edges
  pub moved_ends : All (λ e. (e.from < length R.shape.slots) × (e.to < length R.shape.slots)) R.shape.edges
  moved_ends = subst (λ (es : List Edge). All (λ e. (e.from < length R.shape.slots) × (e.to < length R.shape.slots)) es) (sym plan.edges)
      (All-map (λ (e : Edge). (e.from < length R.shape.slots) × (e.to < length R.shape.slots)) (moved R.place) Q.edges
      (λ k d h. let ends = facts.ends k d h in let from = place_within (get_or Q.edges k d).from ends.0 in let to = place_within (get_or Q.edges k d).to ends.1 in let n = plan.as_many in (omega arith, omega arith)))

  pub back : IsMove R.shape Q (slice_index R.order)
  back = record {
    as_long = sym plan.as_many;
    within = λ k h. let n = plan.as_many in let l = slot_within k (omega arith) in omega arith;
    apart = λ j k h l e. let n = plan.as_many in sym (there_again j (omega arith)) ∙ ap (slice_index R.place) e ∙ there_again k (omega arith);
    first = plan.first;
    slots = λ k h. let n = plan.as_many in plan.slots k (omega arith);
    ends = moved_ends;
    edges = subst (λ (es : List Edge). All (λ e. Contains Q.edges (record { from = slice_index R.order e.from; pred = e.pred; to = slice_index R.order e.to })) es) (sym plan.edges)
        (All-map (λ (e : Edge). Contains Q.edges (record { from = slice_index R.order e.from; pred = e.pred; to = slice_index R.order e.to })) (moved R.place) Q.edges
        (λ k d h. subst (Contains Q.edges) (sym (moved_back (get_or Q.edges k d) (facts.ends k d h))) (Contains-get_or Q.edges k d h)));
  }

  pub ready : IsReady R.shape
  ready = record { few = let n = plan.as_many in let m = facts.few_slots in omega arith; ends = moved_ends }

  pub begins : 0 < length R.shape.slots
  begins = let n = plan.as_many in let m = some_slot in omega arith

-- slot s of the list is slot f s of the other one
pub record Moved (n : ℕ) (f : ℕ → ℕ) (v' v : List ℕ) : Type 0 where
  pub long : length v ≡ n
  pub each : (s : ℕ) → s < n → slice_index v s ≡ slice_index v' (f s)

module _ (G : NumberedGraph) (Q P : Shape) (f : ℕ → ℕ) (move : IsMove Q P f) where
  pub moved_fits : (v' v : List ℕ) → Moved (length Q.slots) f v' v → IsValuation G P v' → IsValuation G Q v
  moved_fits v' v m fits = record {
    one_each = m.long;
    different = λ i j d i_j in_j same.
        let a : i < length Q.slots = omega (arith, m.long) in
        let b : j < length Q.slots = omega (arith, m.long) in
        let e : slice_index v' (f i) ≡ slice_index v' (f j) = sym (m.each i a) ∙ get_or_default v i 0 d (omega arith) ∙ same ∙ get_or_default v j d 0 in_j ∙ m.each j b in
        let fi = move.within i a in
        let fj = move.within j b in
        elim (cases_order (f i) (f j)) [
          | inl x ↦ (let q = move.apart i j a b x in omega arith)
          | inr (inl lt) ↦ fits.different (f i) (f j) 0 lt (omega (arith, fits.one_each, move.as_long)) e
          | inr (inr gt) ↦ fits.different (f j) (f i) 0 gt (omega (arith, fits.one_each, move.as_long)) (sym e)
        ];
    kinds = λ s slot at.
        let in_s = slice_get_within Q.slots s slot at in
        subst (FitsSlot G slot) (sym (m.each s in_s)) (fits.kinds (f s) slot (sym (move.slots s in_s) ∙ at));
    edges = λ k d in_k.
        let e = get_or Q.edges k d in
        let ends = move.ends k d in_k in
        let row = All-contains (λ (x : Edge). HasRow G (slice_index v' x.from) x.pred (slice_index v' x.to)) P.edges (record { from = f e.from; pred = e.pred; to = f e.to }) fits.edges (move.edges k d in_k) in
        subst (λ s. HasRow G s e.pred (slice_index v e.to)) (sym (m.each e.from ends.0)) (subst (λ o. HasRow G (slice_index v' (f e.from)) e.pred o) (sym (m.each e.to ends.1)) row);
  }

-- the list of the numbers at given slots
pub listed : (order v : List ℕ) → Moved (length order) (slice_index order) v (map (λ s. slice_index v s) order)
listed order v = record {
  long = length-map order (λ s. slice_index v s);
  each = λ s h. get_or-map (λ s. slice_index v s) order s 0 0 h;
}

-- a valuation of the plan's pattern is one of the key's, by slots
pub valuation_there : (G : NumberedGraph) (Q : Shape) (R : Route) (v' v : List ℕ) → PatternFacts Q → IsPlanOf Q R → IsPlaced R.place v' v → IsValuation G R.shape v' → IsValuation G Q v
valuation_there G Q R v' v facts plan placed x =
    let long : length R.place ≡ length Q.slots = plan.places.as_long ∙ plan.order.one_each in
    moved_fits G Q R.shape (slice_index R.place) (there Q R facts plan) v' v (record { long = placed.long ∙ long; each = λ s h. placed.each s (omega arith) }) x

-- and back: the numbers in the order of the plan
abbrev pub in_order : Route → List ℕ → List ℕ
in_order R v = map (λ s. slice_index v s) R.order

pub valuation_back : (G : NumberedGraph) (Q : Shape) (R : Route) (v : List ℕ) → PatternFacts Q → IsPlanOf Q R → IsValuation G Q v → IsValuation G R.shape (in_order R v)
valuation_back G Q R v facts plan x =
    let e : length R.order ≡ length R.shape.slots = plan.order.one_each ∙ sym plan.as_many in
    moved_fits G R.shape Q (slice_index R.order) (back Q R facts plan) v (in_order R v) (subst (λ n. Moved n (slice_index R.order) v (in_order R v)) e (listed R.order v)) x
