-- One slot after another.
use Rattle.std.proofs.Common.{ℕ, Option, ◌≡◌, length, slice_index, sym, ap, subst, arith}
use Rattle.std.specs.List.{flat_map, range_with_len}
use Rattle.chase_laws.specs.declared.pattern.Slot.{Slot}
use Rattle.chase_laws.specs.Signature.{value_at, image_at}
use Rattle.key_valuations.proofs.MarkLaws.{value_piece, image_piece, pieces_length}
use Rattle.key_valuations.proofs.parts.counts_of.Goals as goal

pub loop-s-preserved : goal.loop-s-preserved
loop-s-preserved c =
    let Q = c.args.pattern.now in
    let s = c.loop-s.s in
    let at = c.slot_at.ensures in
    record {
      values = λ G v. pieces_length (value_piece G Q v) s c.loop-s.values c.counts_at-here.result.values (c.loop-s.invariant.values G v)
          (subst (λ (o : Option Slot). length (value_at G o (slice_index v s)) ≡ c.counts_at-here.result.values) (sym at) (c.counts_at-here.ensures.values G (slice_index v s)));
      images = λ v. pieces_length (image_piece Q v) s c.loop-s.images c.counts_at-here.result.images (c.loop-s.invariant.images v)
          (subst (λ (o : Option Slot). length (image_at s o (slice_index v s)) ≡ c.counts_at-here.result.images) (sym at) (c.counts_at-here.ensures.images (slice_index v s)));
      few = omega (arith, c.counts_at-here.ensures.few);
    }

pub returns-clause-exact : goal.returns-clause-exact
returns-clause-exact c = λ G v.
    let Q = c.args.pattern.now in
    let all : c.loop-s.s ≡ length Q.slots = omega (arith, ap length c.slots-count.ensures.slots) in (
      subst (λ (n : ℕ). length (flat_map (value_piece G Q v) (range_with_len 0 n)) ≡ c.loop-s.values) all (c.loop-s.invariant.values G v),
      subst (λ (n : ℕ). length (flat_map (image_piece Q v) (range_with_len 0 n)) ≡ c.loop-s.images) all (c.loop-s.invariant.images v),
    )
