-- One slot more.
use Rattle.std.proofs.Common.{ℕ, ◌≡◌, arith, sym, ◌||◌, false, slice_index_or}
use Rattle.std.specs.List.{list_any}
use Rattle.std.proofs.lemmas.List.FromFn.{map-range_with_len_more}
use Rattle.chase_laws.specs.Shape.{touches}
use Rattle.key_plan.proofs.distance.wider_marks.Goals as goal

pub loop-slot-preserved : goal.loop-slot-preserved
loop-slot-preserved c =
    let f = λ (s : ℕ). slice_index_or c.args.before.now s false || list_any (touches c.args.before.now s) c.args.edges.now in
    let e : c.is_within.result ≡ f c.loop-slot.slot = c.is_within.ensures in
    rw (c.in_ok-push.ensures.items, c.loop-slot.invariant, e) (sym (map-range_with_len_more f 0 c.loop-slot.slot c.loop-slot.slot (omega arith)))
