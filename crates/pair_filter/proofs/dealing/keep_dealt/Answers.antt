use Rattle.std.proofs.Common.{arith, subst}
use Rattle.pair_filter.specs.Runs.{IsKept}
use Rattle.pair_filter.proofs.Dealt.{dealt_more, place_behind, dealt_all}
use Rattle.pair_filter.proofs.dealing.keep_dealt.Goals as goal

-- nothing yet
pub loop-place-init : goal.loop-place-init
loop-place-init c = record {
  place = rw c.new-kept.ensures.items (omega arith);
  kept = rw c.new-kept.ensures.items (λ turn k at. absurd (cc));
}

-- one run more
pub loop-place-preserved : goal.loop-place-preserved
loop-place-preserved c =
    let G = c.args.graph.now in
    let K = c.args.patterns.now in
    let xs = c.args.pairs.now in
    let list = c.loop-place.kept.items in
    let kept = c.in_ok-keep_run.field-0 in
    let one : IsKept G K _ kept = subst (λ l. IsKept G K l kept) c.run_at.ensures c.in_ok-keep_run.ensures in
    record {
      place = rw c.in_ok-push.ensures.items (place_behind c.args.threads c.args.first c.loop-place.place list kept c.loop-place.invariant.place);
      kept = rw c.in_ok-push.ensures.items (dealt_more G K xs c.args.threads c.args.first c.loop-place.place list kept c.loop-place.invariant.place c.loop-place.invariant.kept one);
    }

pub returns : goal.returns
returns c = dealt_all c.args.graph.now c.args.patterns.now c.args.pairs.now c.args.threads c.args.first c.loop-place.place c.loop-place.kept.items
    c.loop-place.invariant.place (omega (arith, c.loop-place-test.false, c.div_ceil.ensures)) c.loop-place.invariant.kept
