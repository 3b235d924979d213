-- Every number that an edge allows is tried.
use Rattle.std.proofs.Common.{List, [], ◌∷◌, ◌++◌, ℕ, Option, slice_get, ◌≡◌, ◌<◌, ◌+◌, Some, get_or, take, length, slice_index, refl, sym, ◌∙◌, ap, subst, true≢false, arith}
use Rattle.std.proofs.lemmas.List.{take_all}
use Rattle.key_plan.specs.Route.{IsBlock}
use Rattle.valuation_groups.specs.Rows.{KeyRows}
use Rattle.key_valuations.specs.Marks.{OnlyOne, mark_at}
use Rattle.key_valuations.specs.Counts.{HasCounts}
use Rattle.key_valuations.specs.Listing.{IsReached, AddsParts}
use Rattle.key_valuations.proofs.PartLaws.{popped}
use Rattle.key_valuations.proofs.CompleteLaws.{next}
use Rattle.key_valuations.proofs.ListingLaws.{IsReachedBy, adds_none, adds_same, counts_kept, tried_more, reached_part}
use Rattle.key_valuations.proofs.extend_all.+extend_all.Goals as goal
use Rattle.key_valuations.proofs.extend_all.+extend_all.Goals.{then-goes_on_marked+in_ok-extend_all, else-goes_on_marked}

pub loop-m-init : goal.loop-m-init
loop-m-init t c = record {
  places = refl;
  added = adds_none c.args.graph.now c.args.pattern.now (IsReachedBy c.args.graph.now c.args.plan.now c.args.marks.now c.args.places.now []) c.args.rows.now
      (λ v r. absurd (let k = r.tried.1 in omega arith));
  counts = c.requires.counts;
}

pub loop-m-preserved : goal.loop-m-preserved
loop-m-preserved t c =
    let G = c.args.graph.now in
    let Q = c.args.pattern.now in
    let R = c.args.plan.now in
    let marks = c.args.marks.now in
    let p = c.args.places.now in
    let old = c.args.rows.now in
    let names = c.choices-choice.result.names.now in
    let i = c.loop-m.m-index in
    let m = get_or names i 0 in
    let short : length p < length R.shape.slots = omega (arith, c.if-s-len.false, c.len.ensures, c.len-s.ensures.length) in
    let at : c.loop-m.places ++ m ∷ [] ≡ p ++ m ∷ [] = ap (λ (x : List ℕ). x ++ m ∷ []) c.loop-m.invariant.places in
    record {
      places = elim c.if-goes_on_marked.branch [
        | then-goes_on_marked+in_ok-extend_all w ↦ w.places-is ∙ w.pop.ensures ∙ popped _ p m (w.in_ok-extend_all.ensures.kept ∙ w.push.ensures ∙ at)
        | else-goes_on_marked w ↦ w.places-is ∙ c.loop-m.invariant.places
      ];
      added = elim c.if-goes_on_marked.branch [
        | then-goes_on_marked+in_ok-extend_all w ↦
            subst (λ (rows : KeyRows). AddsParts G Q (IsReachedBy G R marks p (take (i + 1) names)) old rows) (sym w.rows-is)
            (tried_more G Q R marks p short names i c.loop-m-test.true old c.loop-m.rows w.extend_all.new.rows c.loop-m.invariant.added
            (subst (λ (x : List ℕ). AddsParts G Q (IsReached G R marks x) c.loop-m.rows w.extend_all.new.rows) (w.push.ensures ∙ at) w.in_ok-extend_all.ensures.added))
        | else-goes_on_marked w ↦
            subst (λ (rows : KeyRows). AddsParts G Q (IsReachedBy G R marks p (take (i + 1) names)) old rows) (sym w.rows-is)
            (tried_more G Q R marks p short names i c.loop-m-test.true old c.loop-m.rows c.loop-m.rows c.loop-m.invariant.added
            (adds_none G Q (IsReached G R marks (p ++ m ∷ [])) c.loop-m.rows
            (λ v r. true≢false (sym (c.goes_on_marked.ensures.1 (rw c.loop-m.invariant.places (reached_part G Q R marks p short m v r))) ∙ w.if-goes_on_marked.false))))
      ];
      counts = elim c.if-goes_on_marked.branch [
        | then-goes_on_marked+in_ok-extend_all w ↦ subst (λ (rows : KeyRows). HasCounts Q rows.value_count rows.image_count) (sym w.rows-is)
            (counts_kept Q c.loop-m.rows w.extend_all.new.rows w.in_ok-extend_all.ensures.added.value_count w.in_ok-extend_all.ensures.added.image_count c.loop-m.invariant.counts)
        | else-goes_on_marked w ↦ subst (λ (rows : KeyRows). HasCounts Q rows.value_count rows.image_count) (sym w.rows-is) c.loop-m.invariant.counts
      ];
    }

pub returns-clause-added : goal.returns-clause-added
returns-clause-added t c =
    let G = c.args.graph.now in
    let Q = c.args.pattern.now in
    let R = c.args.plan.now in
    let P = R.shape in
    let marks = c.args.marks.now in
    let p = c.args.places.now in
    let slot = c.slot-slot.result in
    let names = c.choices-choice.result.names.now in
    let here = c.len-s.ensures.length in
    let short : length p < length P.slots = omega (arith, c.if-s-len.false, c.len.ensures, c.len-s.ensures.length) in
    let mark : Option ℕ = mark_at marks (length p) in
    let e : c.mark_of-mark.result ≡ mark = c.mark_of-mark.ensures ∙ ap (mark_at marks) here in
    let only : OnlyOne G slot mark c.only_one-only.result = subst (λ (o : Option ℕ). OnlyOne G slot o c.only_one-only.result) e (c.only_one-only.ensures G) in
    adds_same G Q (IsReachedBy G R marks p (take c.loop-m.m-index names)) (IsReached G R marks p) c.args.rows.now c.loop-m.rows (λ v r. r.reached)
    (λ v r.
    let x = next G P marks slot c.block-block.result.now p r.ordered short (subst (λ k. slice_get P.slots k ≡ Some slot) here c.slot-slot.ensures) (subst (λ k. IsBlock P k c.block-block.result.now) here c.block-block.ensures) r.completed in
    let covered = c.choices-choice.ensures.covers slot mark only (slice_index r.ordered (length p)) x.fits x.marked x.edges in
    record { reached = r; tried = rw (take_all c.loop-m.m-index names c.loop-m-test.false) covered })
    c.loop-m.invariant.added
