-- Each literal of a was tried.
use Rattle.std.proofs.Common.{get_or, slice_index, inl, inr, refl, sym, ◌∙◌, subst, true≢false}
use Rattle.std.proofs.lemmas.List.{take_all}
use Rattle.std.proofs.lemmas.List.Elements.{Contains-get_or}
use Rattle.chase_laws.specs.Graph.{IsLiteral}
use Rattle.pair_seed.specs.Folds.{HasAlike}
use Rattle.pair_seed.proofs.Lists.{contains_more}
use Rattle.pair_seed.proofs.share.share_folded.Goals as goal

pub returns-then-is_folded_in : goal.returns-then-is_folded_in
returns-then-is_folded_in c =
    let ls = c.outgoing-l-items.result.now in
    let l = get_or ls c.loop-l.l-index 0 in
    let both = c.is_folded_in.ensures.0 c.if-is_folded_in.true in (
      (λ t. (l, both.1.literal, both.0, both.1.is_literal, (c.outgoing-l-items.ensures.exact l).0 (Contains-get_or ls c.loop-l.l-index 0 c.loop-l-test.true), both.1.row, sym both.1.alike)),
      (λ s. refl),
    )

pub loop-l-preserved : goal.loop-l-preserved
loop-l-preserved c = λ x literal shared at. elim (contains_more c.outgoing-l-items.result.now c.loop-l.l-index x c.loop-l-test.true at) [
  | inl old ↦ c.loop-l.invariant x literal shared old
  | inr same ↦ true≢false (sym (c.is_folded_in.ensures.1 (subst (λ m. IsLiteral c.args.graph.now m × HasAlike c.args.graph.now c.args.b c.args.p (slice_index c.args.graph.now.alike m)) (sym same) (literal, shared))) ∙ c.if-is_folded_in.false)
]

pub returns : goal.returns
returns c = (
  (λ t. absurd (true≢false (sym t))),
  (λ s. absurd (c.loop-l.invariant s.0 s.2 (record { literal = s.1; is_literal = s.3; row = s.5; alike = sym s.6 }) (rw (take_all c.loop-l.l-index c.outgoing-l-items.result.now c.loop-l-test.false) ((c.outgoing-l-items.ensures.exact s.0).1 s.4)))),
)
