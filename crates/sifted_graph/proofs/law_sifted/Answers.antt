-- A part has no rows of its own, so what is derived over it is derived over the whole; the other way goes step by step.
use Rattle.sifted_graph.proofs.SiftedSteps.{same_in_part}
use Rattle.sifted_graph.proofs.law_sifted.Goals as goal

pub returns-clause-same : goal.returns-clause-same
returns-clause-same c G F K h a b =
    ((λ k. (k.0, c.law_rows.ensures.derivation F G K h.part k.0 k.1, k.2)), same_in_part K G F h (c.law_signature.ensures.values G) (c.law_step_grows.ensures F K) a b)

pub returns-clause-derivation : goal.returns-clause-derivation
returns-clause-derivation c G F K h H d = c.law_rows.ensures.derivation F G K h.part H d
