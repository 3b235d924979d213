use Rattle.std.proofs.Common.{[], ◌∷◌, ◌++◌, ap, ◌∙◌}
use Rattle.std.proofs.lemmas.Result.{on_ok_weaker}
use Rattle.gk_base.specs.declared.term.Triple.{Triple}
use Rattle.term_list.proofs.TripleLemmas.{triples_in-pushed, AreWhole-after}
use Rattle.term_list.proofs.triples.Triples.push.Goals as goal

pub invariant_of-self : goal.invariant_of-self
invariant_of-self c =
    let t : Triple = record { subject = c.args.subject.now; predicate = c.args.predicate.now; object = c.args.object.now } in
    AreWhole-after c.push_three.result c.self.inside.terms c.push_three.new.terms t c.self.invariant c.push_three.ensures.ok c.push_three.ensures.err

pub returns-clause-ok : goal.returns-clause-ok
returns-clause-ok c =
    let t : Triple = record { subject = c.args.subject.now; predicate = c.args.predicate.now; object = c.args.object.now } in
    on_ok_weaker c.push_three.result
    (λ grown. triples_in-pushed c.self.inside.terms c.push_three.new.terms t c.self.invariant grown ∙ ap (λ ts. ts ++ t ∷ []) c.self.view_is)
    c.push_three.ensures.ok
