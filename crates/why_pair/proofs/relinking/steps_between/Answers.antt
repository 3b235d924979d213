use Rattle.std.proofs.Common.{◌++◌, ◌<◌, All, length, sym, ap, subst, ◌∙◌}
use Rattle.chase_laws.specs.Joined.{links}
use Rattle.proof_graph.specs.Way.{way}
use Rattle.why_pair.proofs.NeedLemmas.{way_inside}
use Rattle.why_pair.proofs.relinking.steps_between.Goals as goal

pub step_numbers-requires-clause-inside : goal.step_numbers-requires-clause-inside
step_numbers-requires-clause-inside c =
    let H = c.args.ways.now in
    let W = way (links H) (length H) c.args.a c.args.b in
    let is = c.deref.ensures.value ∙ c.in_ok-put.ensures.ok ∙ ap (λ l. l ++ W) c.new-places.ensures.items in
    subst (All (λ p. p < length c.args.kept.now)) (sym is) (subst (λ n. All (λ p. p < n) W) (sym c.requires.kept.one_each) (way_inside H c.args.a c.args.b c.requires.joined))
