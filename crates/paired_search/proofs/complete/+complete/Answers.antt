-- Every number that an edge allows was tried.
use Rattle.std.proofs.Common.{List, [], ◌∷◌, ◌++◌, ℕ, Some, slice_get, Contains, ◌≡◌, ◌<◌, get_or, length, slice_index, sym, ◌∙◌, ap, subst, true≢false, arith}
use Rattle.std.proofs.lemmas.List.{take_all}
use Rattle.key_plan.specs.Route.{IsBlock}
use Rattle.paired_search.specs.Part.{IsCompletedBy}
use Rattle.paired_search.proofs.PartLaws.{popped}
use Rattle.paired_search.proofs.CompleteLaws.{next_edges, none_more}
use Rattle.paired_search.proofs.complete.+complete.Goals as goal
use Rattle.paired_search.proofs.complete.+complete.Goals.{then-goes_on+else-complete, else-goes_on}

pub loop-m-preserved : goal.loop-m-preserved
loop-m-preserved t c =
    let G = c.args.graph.now in
    let P = c.args.plan.now.shape in
    let p = c.args.places.now in
    let m = get_or c.choices-choice.result.names.now c.loop-m.m-index 0 in
    let short : length p < length P.slots = omega (arith, c.if-s-len.false, c.len.ensures, c.len-s.ensures.length) in
    let at : c.loop-m.places ++ m ∷ [] ≡ p ++ m ∷ [] = ap (λ (x : List ℕ). x ++ m ∷ []) c.loop-m.invariant.places in
    record {
      none = none_more G P p c.len-s.result c.loop-m.m-index c.choices-choice.result.names.now c.len-s.ensures.length short c.loop-m-test.true
          (elim c.if-goes_on.branch [
            | then-goes_on+else-complete w ↦ λ part v d. w.complete.ensures.none w.if-complete.false v
                (subst (λ (x : List ℕ). IsCompletedBy G P x v) (sym (w.push.ensures ∙ at)) d)
            | else-goes_on w ↦ λ part v d. absurd (true≢false (sym (c.goes_on.ensures.1 (rw c.loop-m.invariant.places part)) ∙ w.if-goes_on.false))
          ])
          c.loop-m.invariant.none;
      places = elim c.if-goes_on.branch [
        | then-goes_on+else-complete w ↦ w.places-is ∙ w.pop.ensures ∙ popped _ p m (w.complete.ensures.kept w.if-complete.false ∙ w.push.ensures ∙ at)
        | else-goes_on w ↦ w.places-is ∙ c.loop-m.invariant.places
      ];
    }

pub returns-clause-none : goal.returns-clause-none
returns-clause-none t c = λ _ v d.
    let G = c.args.graph.now in
    let P = c.args.plan.now.shape in
    let p = c.args.places.now in
    let slot = c.slot-slot.result in
    let names = c.choices-choice.result.names.now in
    let here = c.len-s.ensures.length in
    let short : length p < length P.slots = omega (arith, c.if-s-len.false, c.len.ensures, c.len-s.ensures.length) in
    let edges = next_edges G P c.block-block.result.now p v short (subst (λ k. IsBlock P k c.block-block.result.now) here c.block-block.ensures) d in
    let covered = c.choices-choice.ensures.covers (slice_index v (length p)) (d.valuation.kinds (length p) slot (subst (λ k. slice_get P.slots k ≡ Some slot) here c.slot-slot.ensures)) edges in
    c.loop-m.invariant.none v d (rw (take_all c.loop-m.m-index names c.loop-m-test.false) (subst (λ k. Contains names (slice_index v k)) (sym here) covered))
