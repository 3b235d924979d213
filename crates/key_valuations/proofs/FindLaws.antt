-- A valuation in the order of the plan, and by slots.
use Rattle.std.proofs.Common.{List, [], ◌∷◌, ℕ, Option, take, slice_index, length, ◌≡◌, ◌<◌, refl, sym, ◌∙◌, ap, subst, arith}
use Rattle.std.proofs.lemmas.List.{get_or-map}
use Rattle.std.proofs.lemmas.Option.{slice_get_within}
use Rattle.chase_laws.specs.Shape.{Shape, PatternFacts}
use Rattle.chase_laws.specs.Graph.{NumberedGraph}
use Rattle.chase_laws.specs.Valuation.{IsValuation}
use Rattle.key_plan.specs.Route.{Route, IsPlanOf}
use Rattle.key_valuations.specs.Part.{IsPlaced}
use Rattle.key_valuations.specs.Marks.{IsMarked, AreMarked, AreMarkedBySlots, IsMarkedPart, IsCompletedBy, mark_at}
use Rattle.key_valuations.proofs.CompleteLaws.{completes_next}
use Rattle.key_valuations.proofs.Moves.{there, back, place_at, begins, in_order, valuation_there, valuation_back}

module _ (G : NumberedGraph) (Q : Shape) (R : Route) (marks : List (Option ℕ)) (facts : PatternFacts Q) (plan : IsPlanOf Q R) where
  -- the first number
  first_is : (v : List ℕ) (n : ℕ) → take 1 v ≡ n ∷ [] → slice_index v 0 ≡ n
  first_is [] n e = absurd (cc)
  first_is (x ∷ xs) n e = cc

  -- what completes the list of a name is, by slots, a valuation at the name with the marks
  pub placed_valuation : (v' v : List ℕ) → IsPlaced R.place v' v → IsValuation G R.shape v' → IsValuation G Q v
  placed_valuation v' v placed x = valuation_there G Q R v' v facts plan placed x

  pub placed_marks : (v' v : List ℕ) → IsPlaced R.place v' v → IsValuation G R.shape v' → AreMarked G R.shape marks v' → AreMarkedBySlots G Q R.place marks v
  placed_marks v' v placed x marked s slot at =
      let move = there Q R facts plan in
      let in_s = slice_get_within Q.slots s slot at in
      let long : length R.place ≡ length Q.slots = plan.places.as_long ∙ plan.order.one_each in
      subst (IsMarked G slot (mark_at marks (slice_index R.place s))) (sym (placed.each s (omega arith)))
      (marked (slice_index R.place s) slot (omega (arith, move.within s in_s, x.one_each, plan.as_many)) (sym (move.slots s in_s) ∙ at))

  pub placed_first : (v' v p : List ℕ) (n : ℕ) → IsPlaced R.place v' v → p ≡ n ∷ [] → take (length p) v' ≡ p → slice_index v 0 ≡ n
  placed_first v' v p n placed e begun =
      let move = there Q R facts plan in
      let long : length R.place ≡ length Q.slots = plan.places.as_long ∙ plan.order.one_each in
      let some = begins Q R facts plan in
      let n_slots = plan.as_many in
      let here : take 1 v' ≡ n ∷ [] = subst (λ (q : List ℕ). take (length q) v' ≡ q) e begun in
      placed.each 0 (omega arith) ∙ ap (slice_index v') move.first ∙ first_is v' n here

  -- a valuation with the marks completes, in the order of the plan, the list of its name
  pub ordered : (v : List ℕ) → IsValuation G Q v → AreMarkedBySlots G Q R.place marks v → IsCompletedBy G R.shape marks [] (in_order R v)
  ordered v x marked = record {
    valuation = valuation_back G Q R v facts plan x;
    begins = refl;
    marked = λ k slot in_k at.
        let move = back Q R facts plan in
        let n_slots = plan.as_many in
        let in_P = slice_get_within R.shape.slots k slot at in
        let o = slice_index R.order k in
        let there_again : slice_index R.place o ≡ k = place_at Q R facts plan k (omega arith) in
        let moved : slice_index (in_order R v) k ≡ slice_index v o = get_or-map (λ s. slice_index v s) R.order k 0 0 (omega (arith, plan.order.one_each)) in
        subst (IsMarked G slot (mark_at marks k)) (sym moved)
        (subst (λ (j : ℕ). IsMarked G slot (mark_at marks j) (slice_index v o)) there_again (marked o slot (sym (move.slots k in_P) ∙ at)));
  }

  pub ordered_first : (v : List ℕ) → slice_index (in_order R v) 0 ≡ slice_index v 0
  ordered_first v =
      let some = begins Q R facts plan in
      let n_slots = plan.as_many in
      get_or-map (λ s. slice_index v s) R.order 0 0 0 (omega (arith, plan.order.one_each)) ∙ ap (slice_index v) plan.first

  pub ordered_begins : (v : List ℕ) (n : ℕ) → slice_index v 0 ≡ n → IsValuation G Q v → AreMarkedBySlots G Q R.place marks v → IsMarkedPart G R.shape marks (n ∷ []) × IsCompletedBy G R.shape marks (n ∷ []) (in_order R v)
  ordered_begins v n e x marked =
      let both = completes_next G R.shape marks [] (in_order R v) (begins Q R facts plan) (ordered v x marked) in
      let first : slice_index (in_order R v) 0 ≡ n = ordered_first v ∙ e in (
        subst (λ (m : ℕ). IsMarkedPart G R.shape marks (m ∷ [])) first both.0,
        subst (λ (m : ℕ). IsCompletedBy G R.shape marks (m ∷ []) (in_order R v)) first both.1,
      )

  -- and it is placed so
  pub ordered_placed : (v : List ℕ) → IsValuation G Q v → IsPlaced R.place (in_order R v) v
  ordered_placed v x = record {
    long = x.one_each ∙ sym (plan.places.as_long ∙ plan.order.one_each);
    each = λ s in_s.
        let long : length R.place ≡ length Q.slots = plan.places.as_long ∙ plan.order.one_each in
        let move = there Q R facts plan in
        let k = slice_index R.place s in
        let within : k < length R.order = omega (arith, move.within s (omega arith), plan.order.one_each) in
        let slot_again : slice_index R.order k ≡ s = plan.places.slot_at s (omega (arith, plan.order.one_each)) in
        sym (get_or-map (λ t. slice_index v t) R.order k 0 0 within ∙ ap (slice_index v) slot_again);
  }
