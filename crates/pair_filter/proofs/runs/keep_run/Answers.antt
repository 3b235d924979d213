use Rattle.std.proofs.Common.{ℕ, get_or, take, refl, sym, true≢false}
use Rattle.std.proofs.lemmas.List.{take_more}
use Rattle.std.proofs.lemmas.Slice.Zip.{all_zipped_more}
use Rattle.chase_laws.specs.Pairing.{ArePairedBy}
use Rattle.paired_search.specs.declared.key_range.KeyRange.{KeyRange}
use Rattle.pair_filter.specs.Depth.{filter_depth}
use Rattle.pair_filter.specs.Keys.{AreKeysOf}
use Rattle.pair_filter.proofs.Selections.{selection_push, selection_skip}
use Rattle.pair_filter.proofs.runs.keep_run.Goals as goal

-- nothing yet
pub loop-pair-init : goal.loop-pair-init
loop-pair-init c = record {
  kept = c.in_ok-kept.ensures.items;
  keys = rw (c.in_ok-kept.ensures.items, c.in_ok-keys.ensures.items) tt;
}

-- a pair that is not kept
pub loop-pair-preserved-in_default : goal.loop-pair-preserved-in_default
loop-pair-preserved-in_default c =
    let P : ℕ × ℕ → Type 0 = λ x. ArePairedBy c.args.graph.now c.args.patterns.now filter_depth x.0 x.1 in
    let xs = c.args.pairs.now in
    let i = c.loop-pair.pair-index in
    let x = get_or xs i (0, 0) in
    record {
      kept = rw (take_more xs i (0, 0) c.loop-pair-test.true)
          (selection_skip P (take i xs) c.loop-pair.kept.items x c.loop-pair.invariant.kept (λ h. true≢false (sym (c.in_default.ensures.paired.1 h))));
      keys = c.loop-pair.invariant.keys;
    }

-- one that is
pub loop-pair-preserved : goal.loop-pair-preserved
loop-pair-preserved c =
    let P : ℕ × ℕ → Type 0 = λ x. ArePairedBy c.args.graph.now c.args.patterns.now filter_depth x.0 x.1 in
    let R : ℕ × ℕ → KeyRange → Type 0 = λ x range. AreKeysOf c.args.graph.now c.args.patterns.now range x.0 x.1 in
    let xs = c.args.pairs.now in
    let i = c.loop-pair.pair-index in
    let x = get_or xs i (0, 0) in
    record {
      kept = rw (take_more xs i (0, 0) c.loop-pair-test.true, c.in_ok-push.ensures.items)
          (selection_push P (take i xs) c.loop-pair.kept.items x c.loop-pair.invariant.kept (c.in-Some.ensures.paired.0 refl));
      keys = rw (c.in_ok-push.ensures.items, c.in_ok-push-2.ensures.items)
          (all_zipped_more R c.loop-pair.kept.items c.loop-pair.keys.items x c.in-Some.range c.loop-pair.invariant.keys c.in-Some.ensures.keys);
    }
