-- The order is that of the distances, and what is moved there and back stays.
use Rattle.std.proofs.Common.{ℕ, List, All, Contains, ◌≡◌, ◌<◌, map, length, slice_get, slice_index, slice_index_or, sym, ◌∙◌, ap, subst, arith}
use Rattle.std.proofs.lemmas.List.Elements.{Contains-get_or}
use Rattle.chase_laws.specs.declared.pattern.Edge.{Edge}
use Rattle.key_plan.specs.Making.{IsListing, IsGreatest, block_of}
use Rattle.key_plan.specs.Route.{moved, AreInverse, IsBlock}
use Rattle.key_plan.proofs.Levels.{radius_is}
use Rattle.key_plan.proofs.Blocks.{block_is}
use Rattle.key_plan.proofs.plan.Plan.new.Goals as goal

pub places-requires : goal.places-requires
places-requires c = subst IsListing (sym c.deref.ensures.value) c.in_ok-order.ensures.listing

pub moved_slots-requires : goal.moved_slots-requires
moved_slots-requires c = λ k d h.
    let s = slice_index_or c.deref-2.result.now k d in
    let in_s : s < length c.args.pattern.now.slots = (c.in_ok-order.ensures.order.slots s).0 (subst (λ (xs : List ℕ). Contains xs s) c.deref-2.ensures.value (Contains-get_or c.deref-2.result.now k d h)) in
    omega (arith, ap length c.slots.ensures.slots)

pub moved_edges-requires : goal.moved_edges-requires
moved_edges-requires c =
    let inverse : AreInverse c.in_ok-order.order.items c.in_ok-place.place.items = subst (λ (xs : List ℕ). AreInverse xs c.in_ok-place.place.items) c.deref.ensures.value c.in_ok-place.ensures in
    let as_long : length c.deref-3.result.now ≡ length c.args.pattern.now.slots = ap length c.deref-3.ensures.value ∙ inverse.as_long ∙ c.in_ok-order.ensures.order.one_each in
    subst (λ (es : List Edge). All (λ e. (e.from < length c.deref-3.result.now) × (e.to < length c.deref-3.result.now)) es) (sym c.edges.ensures.edges)
    (λ k d h. let ends = c.slots.ensures.facts.ends k d h in let from = ends.0 in let to = ends.1 in (omega arith, omega arith))

pub invariant_of-result : goal.invariant_of-result
invariant_of-result c =
    let Q = c.args.pattern.now in
    let inverse : AreInverse c.in_ok-order.order.items c.in_ok-place.place.items = subst (λ (xs : List ℕ). AreInverse xs c.in_ok-place.place.items) c.deref.ensures.value c.in_ok-place.ensures in
    let edges : c.in_ok-edges.edges.items ≡ map (moved c.in_ok-place.place.items) Q.edges = c.in_ok-edges.ensures ∙ ap (λ (xs : List ℕ). map (moved xs) c.edges.result.now) c.deref-3.ensures.value ∙ ap (map (moved c.in_ok-place.place.items)) c.edges.ensures.edges in
    let long : length c.in_ok-slots.slots.items ≡ length Q.slots = c.in_ok-slots.ensures.long ∙ ap length c.deref-2.ensures.value ∙ c.in_ok-order.ensures.order.one_each in
    let count : c.len.result ≡ length c.in_ok-slots.slots.items = omega (arith, c.len.ensures) in
    record {
      few = omega (arith, long, c.slots.ensures.facts.few_slots);
      as_many = c.in_ok-blocks.ensures.long ∙ count;
      each = λ s l d. subst (IsBlock (record { slots = c.in_ok-slots.slots.items; edges = c.in_ok-edges.edges.items }) s) (sym (c.in_ok-blocks.ensures.each s (omega (arith, count)) d ∙ ap (λ (es : List Edge). block_of es s) c.deref-4.ensures.value))
          (block_is Q c.in_ok-order.order.items c.in_ok-place.place.items c.in_ok-edges.edges.items c.in_ok-order.ensures.order inverse edges c.in_ok-slots.slots.items s (omega arith));
    }

pub returns : goal.returns
returns c =
    let Q = c.args.pattern.now in
    let inverse : AreInverse c.in_ok-order.order.items c.in_ok-place.place.items = subst (λ (xs : List ℕ). AreInverse xs c.in_ok-place.place.items) c.deref.ensures.value c.in_ok-place.ensures in
    let edges : c.in_ok-edges.edges.items ≡ map (moved c.in_ok-place.place.items) Q.edges = c.in_ok-edges.ensures ∙ ap (λ (xs : List ℕ). map (moved xs) c.edges.result.now) c.deref-3.ensures.value ∙ ap (map (moved c.in_ok-place.place.items)) c.edges.ensures.edges in
    let long : length c.in_ok-slots.slots.items ≡ length Q.slots = c.in_ok-slots.ensures.long ∙ ap length c.deref-2.ensures.value ∙ c.in_ok-order.ensures.order.one_each in
    let same_order : c.deref-2.result.now ≡ c.in_ok-order.order.items = c.deref-2.ensures.value in
    record {
      radius = radius_is Q c.in_ok-distances.distances.items c.greatest-radius.result c.in_ok-distances.ensures (subst (λ (xs : List ℕ). IsGreatest xs c.greatest-radius.result) c.deref-5.ensures.value c.greatest-radius.ensures);
      order = c.in_ok-order.ensures.order;
      first = c.in_ok-order.ensures.order.first;
      places = inverse;
      as_many = long;
      slots = λ k h. c.in_ok-slots.ensures.each k (omega (arith, ap length same_order, c.in_ok-order.ensures.order.one_each))
          ∙ ap (λ ss. slice_get ss (slice_index c.deref-2.result.now k)) c.slots.ensures.slots ∙ ap (λ (xs : List ℕ). slice_get Q.slots (slice_index xs k)) same_order;
      edges = edges;
    }
