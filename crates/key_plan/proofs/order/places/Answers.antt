-- The places of all slots.
use Rattle.std.proofs.Common.{ℕ, ◌≢◌, ◌<◌, length, slice_index, get_or, sym, ◌∙◌, ap, arith, inl, inr, get_or-set_other, get_or-set_same}
use Rattle.std.proofs.Math.ListN.{set, length-set}
use Rattle.std.proofs.lemmas.Bool.{cases_eq}
use Rattle.std.proofs.lemmas.List.Elements.{Contains-get_or}
use Rattle.key_plan.proofs.Ordered.{inverse_of}
use Rattle.key_plan.proofs.order.places.Goals as goal

pub index_mut-requires : goal.index_mut-requires
index_mut-requires c =
    let h = (c.requires.every (get_or c.args.order.now c.loop-place.place 0)).0 (Contains-get_or c.args.order.now c.loop-place.place 0 c.loop-place-test.true) in omega (arith, c.loop-place.invariant.one_each)

pub loop-place-preserved : goal.loop-place-preserved
loop-place-preserved c =
    let order = c.args.order.now in
    let p = c.loop-place.place in
    let old = c.loop-place.places.items in
    let at = get_or order p 0 in
    let long = c.loop-place.invariant.one_each in
    let in_at : at < length old = let h = (c.requires.every at).0 (Contains-get_or order p 0 c.loop-place-test.true) in omega arith in
    record {
      one_each = length-set old at p ∙ long;
      each = λ k h. elim (cases_eq k p) [
        | inl e ↦ ap (λ (j : ℕ). slice_index (set old at p) (slice_index order j)) e ∙ get_or-set_same old at p 0 in_at ∙ sym e
        | inr ne ↦
            (let other : slice_index order k ≢ at = c.requires.different k p 0 (omega arith) c.loop-place-test.true in
            get_or-set_other old at (slice_index order k) p 0 other ∙ c.loop-place.invariant.each k (omega arith))
      ];
    }

pub returns : goal.returns
returns c = inverse_of c.args.order.now c.loop-place.places.items c.requires c.loop-place.invariant.one_each (λ k h. c.loop-place.invariant.each k (omega arith))
