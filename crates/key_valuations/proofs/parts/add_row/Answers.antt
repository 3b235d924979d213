-- One slot after another.
use Rattle.std.proofs.Common.{ℕ, Some, ◌≡◌, length, slice_get, slice_index, sym, ◌∙◌, ap, ap₂, arith}
use Rattle.std.specs.List.{flat_map, range_with_len}
use Rattle.chase_laws.specs.Signature.{value_at, image_at, values_of, images_of}
use Rattle.key_valuations.proofs.MarkLaws.{value_piece, image_piece, pieces_more}
use Rattle.key_valuations.proofs.parts.add_row.Goals as goal

pub loop-s-preserved : goal.loop-s-preserved
loop-s-preserved c =
    let G = c.args.graph.now in
    let Q = c.args.pattern.now in
    let v = c.args.valuation.now in
    let s = c.loop-s.s in
    let slot = c.slot_at.result in
    let at : Some slot ≡ slice_get Q.slots s = sym c.slot_at.ensures in
    record {
      values = pieces_more (value_piece G Q v) s _ _ _ c.loop-s.invariant.values c.in_ok-add_part.ensures.values (ap₂ (value_at G) at c.get.ensures);
      images = pieces_more (image_piece Q v) s _ _ _ c.loop-s.invariant.images c.in_ok-add_part.ensures.images (ap₂ (image_at s) at c.get.ensures);
    }

pub push-requires-clause-values : goal.push-requires-clause-values
push-requires-clause-values c =
    let Q = c.args.pattern.now in
    let all : c.loop-s.s ≡ length Q.slots = omega (arith, ap length c.slots-count.ensures.slots) in
    let e : c.deref.result.now ≡ values_of c.args.graph.now Q c.args.valuation.now = c.deref.ensures.value ∙ c.loop-s.invariant.values ∙ ap (λ (k : ℕ). flat_map (value_piece c.args.graph.now Q c.args.valuation.now) (range_with_len 0 k)) all in
    ap length e ∙ (c.requires.counts c.args.graph.now c.args.valuation.now).0

pub push-requires-clause-images : goal.push-requires-clause-images
push-requires-clause-images c =
    let Q = c.args.pattern.now in
    let all : c.loop-s.s ≡ length Q.slots = omega (arith, ap length c.slots-count.ensures.slots) in
    let e : c.deref-2.result.now ≡ images_of Q c.args.valuation.now = c.deref-2.ensures.value ∙ c.loop-s.invariant.images ∙ ap (λ (k : ℕ). flat_map (image_piece Q c.args.valuation.now) (range_with_len 0 k)) all in
    ap length e ∙ (c.requires.counts c.args.graph.now c.args.valuation.now).1

pub returns : goal.returns
returns c =
    let Q = c.args.pattern.now in
    let all : c.loop-s.s ≡ length Q.slots = omega (arith, ap length c.slots-count.ensures.slots) in
    let u : c.deref.result.now ≡ values_of c.args.graph.now Q c.args.valuation.now = c.deref.ensures.value ∙ c.loop-s.invariant.values ∙ ap (λ (k : ℕ). flat_map (value_piece c.args.graph.now Q c.args.valuation.now) (range_with_len 0 k)) all in
    let w : c.deref-2.result.now ≡ images_of Q c.args.valuation.now = c.deref-2.ensures.value ∙ c.loop-s.invariant.images ∙ ap (λ (k : ℕ). flat_map (image_piece Q c.args.valuation.now) (range_with_len 0 k)) all in
    let n : c.get-2.result ≡ slice_index c.args.valuation.now 0 = c.get-2.ensures in
    rw (u, w, n) at c.in_ok-push.ensures.ok
