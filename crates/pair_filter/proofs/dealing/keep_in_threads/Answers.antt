use Rattle.std.proofs.Common.{◌≡◌, ◌*◌, ◌/◌, ◌∙◌, ℕ, take, arith, sym, subst}
use Rattle.std.proofs.lemmas.List.{take_all}
use Rattle.std.proofs.lemmas.Option.{get_or_from_slice_get, slice_get_within}
use Rattle.rayon.proofs.ListFacts.{AllZip-append}
use Rattle.chase_laws.specs.Pairing.{ArePairedBy}
use Rattle.paired_search.specs.declared.key_range.KeyRange.{KeyRange}
use Rattle.pair_filter.specs.Depth.{filter_depth}
use Rattle.pair_filter.specs.Keys.{AreKeysOf}
use Rattle.pair_filter.specs.Runs.{IsKept, run_of}
use Rattle.pair_filter.specs.Selection.{IsSelection}
use Rattle.pair_filter.proofs.Dealt.{found_run, selection_run}
use Rattle.pair_filter.proofs.dealing.keep_in_threads.Goals as goal

-- the thread to which a run is dealt has it
pub index-of_run-requires : goal.index-of_run-requires
index-of_run-requires g c =
    let found = found_run c.args.graph.now c.args.patterns.now c.args.pairs.now c.min-threads.result c.loop-run.run c.in_ok-dealt.dealt.items c.index.result.now
    (omega (arith, c.if-threads-lt2.false)) c.in_ok-dealt.ensures.count (omega (arith, c.loop-run-test.true, c.div_ceil-run-end.ensures)) c.index.ensures c.in_ok-dealt.ensures.kept in
    rw c.index.result.now.ok.0 (slice_get_within c.index.result.now.items (c.loop-run.run / c.min-threads.result) found.0 found.1)

-- the runs so far, and one more
pub loop-run-preserved : goal.loop-run-preserved
loop-run-preserved g c =
    let G = c.args.graph.now in
    let K = c.args.patterns.now in
    let xs = c.args.pairs.now in
    let run = c.loop-run.run in
    let one = c.index-of_run.result.now in
    let R : ℕ × ℕ → KeyRange → Type 0 = λ x range. AreKeysOf G K range x.0 x.1 in
    let found = found_run c.args.graph.now c.args.patterns.now c.args.pairs.now c.min-threads.result c.loop-run.run c.in_ok-dealt.dealt.items c.index.result.now
    (omega (arith, c.if-threads-lt2.false)) c.in_ok-dealt.ensures.count (omega (arith, c.loop-run-test.true, c.div_ceil-run-end.ensures)) c.index.ensures c.in_ok-dealt.ensures.kept in
    let same = c.index-of_run.ensures ∙ get_or_from_slice_get c.index.result.now.items (run / c.min-threads.result) found.0 one found.1 in
    let kept : IsKept G K (run_of xs run) one = subst (IsKept G K (run_of xs run)) (sym same) found.2 in
    record {
      kept = rw (c.in_ok-extend_from_slice.ensures.items, c.deref.ensures.value) (selection_run G K xs run c.loop-run.kept.items one.pairs.items c.loop-run.invariant.kept kept.0);
      keys = rw (c.in_ok-extend_from_slice.ensures.items, c.in_ok-extend_from_slice-2.ensures.items, c.deref.ensures.value, c.deref-in-loop-run.ensures.value)
          (AllZip-append R c.loop-run.kept.items one.pairs.items c.loop-run.keys.items one.keys.items c.loop-run.invariant.keys kept.1);
    }

-- all runs are all pairs
pub returns : goal.returns
returns g c =
    let xs = c.args.pairs.now in
    let P : ℕ × ℕ → Type 0 = λ x. ArePairedBy c.args.graph.now c.args.patterns.now filter_depth x.0 x.1 in
    let whole : take (c.loop-run.run * 1024) xs ≡ xs = take_all (c.loop-run.run * 1024) xs (omega (arith, c.loop-run-test.false, c.div_ceil-run-end.ensures)) in
    (subst (λ l. IsSelection P l c.loop-run.kept.items) whole c.loop-run.invariant.kept, c.loop-run.invariant.keys)
