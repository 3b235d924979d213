-- One edge more.
use Rattle.std.proofs.Common.{slice_get, ◌≢◌, ◌∙◌, ap, inl, inr, sym, subst, arith}
use Rattle.std.proofs.lemmas.Bool.{cases_eq}
use Rattle.std.proofs.lemmas.Option.{slice_get_within}
use Rattle.chase_laws.specs.declared.pattern.Edge.{Edge}
use Rattle.pair_filter.proofs.Idle.{some_same}
use Rattle.pair_filter.proofs.Steps.{paired_at_once}
use Rattle.pair_filter.proofs.leaf.is_leaf.Goals as goal

pub loop-place-preserved : goal.loop-place-preserved
loop-place-preserved c = λ k e lt asked at. elim (cases_eq k c.loop-place.place) [
  | inl same ↦
      (let edge = some_same c.edge_at.result e (sym c.edge_at.ensures.edge ∙ ap (slice_get c.args.pattern.now.edges) (sym same) ∙ at) in
      subst (λ (x : Edge). (x.from ≢ c.args.s) × (x.to ≢ c.args.s)) edge (c.has_end_at.ensures.from c.if-has_end_at.false, c.has_end_at.ensures.to c.if-has_end_at.false))
  | inr other ↦ c.loop-place.invariant k e (omega arith) asked at
]

pub returns-then-depth-eq0 : goal.returns-then-depth-eq0
returns-then-depth-eq0 c = λ yes G u w here. paired_at_once G c.args.pattern.now c.args.skipped c.args.depth c.args.s u w c.if-depth-eq0.true here

pub returns : goal.returns
returns c = λ yes G u w here. record {
  here = here;
  along = λ d k e is asked at.
      let none = c.loop-place.invariant k e (omega (arith, slice_get_within c.args.pattern.now.edges k e at, c.edge_count-place-end.ensures, c.loop-place-test.false)) asked at in
      ((λ from. absurd (none.0 from)), (λ to. absurd (none.1 to)));
}
