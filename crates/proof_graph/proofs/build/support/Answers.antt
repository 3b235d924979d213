use Rattle.std.proofs.Common.{◌++◌, ◌<◌, All, length, arith, subst, sym, ap, ap₂, ◌∙◌}
use Rattle.std.proofs.lemmas.List.Elements.{All-weaker}
use Rattle.chase_laws.specs.Joined.{joined_by, links}
use Rattle.proof_graph.specs.Way.{way}
use Rattle.proof_graph.proofs.SupportLemmas.{way_below}
use Rattle.proof_graph.proofs.build.support.Goals as goal

pub step_numbers-requires : goal.step_numbers-requires
step_numbers-requires c =
    let H = c.args.ways.now in
    let x = c.get.result in
    let y = c.get-2.result in
    let joins = ap₂ (joined_by H) c.get.ensures c.get-2.ensures ∙ c.requires.joined in
    let few = c.requires.few in
    let is = c.deref.ensures.value ∙ c.in_ok-put.ensures.ok ∙ ap (λ l. l ++ way (links H) (length H) x y) c.new-places.ensures.items in
    subst (All (λ p. p < 4294967295)) (sym is)
    (All-weaker (λ p. p < length H) (λ p. p < 4294967295) (λ p h. omega arith) (way (links H) (length H) x y) (way_below H x y joins))
