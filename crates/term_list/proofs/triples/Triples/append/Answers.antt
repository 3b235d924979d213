-- The terms of whole triples go behind those of whole triples.
use Rattle.std.proofs.Common.{◌++◌, ap, ap₂, ◌∙◌}
use Rattle.std.proofs.lemmas.Result.{on_ok_weaker}
use Rattle.std.specs.Prelude.{List}
use Rattle.gk_base.specs.declared.term.Triple.{Triple}
use Rattle.term_list.specs.Triples.{triples_in}
use Rattle.term_list.proofs.TripleLemmas.{triples_in-appended, AreWhole-appended}
use Rattle.term_list.proofs.triples.Triples.append.Goals as goal

pub invariant_of-self : goal.invariant_of-self
invariant_of-self c =
    AreWhole-appended c.self.inside.terms c.other.inside.terms c.self.invariant c.other.invariant c.append.result c.append.new.self c.append.ensures.ok c.append.ensures.err

pub returns-clause-ok : goal.returns-clause-ok
returns-clause-ok c =
    on_ok_weaker c.append.result
    (λ grown. ap triples_in grown ∙ triples_in-appended c.self.inside.terms c.other.inside.terms c.self.invariant c.other.invariant
    ∙ ap₂ (λ (a b : List Triple). a ++ b) c.self.view_is c.other.view_is)
    c.append.ensures.ok
