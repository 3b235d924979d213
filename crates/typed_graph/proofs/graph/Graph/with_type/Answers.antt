use Rattle.std.proofs.Common.{ap, sym, ◌∙◌}
use Rattle.chase_laws.specs.Graph.{NumberedGraph}
use Rattle.typed_graph.proofs.graph.Graph.with_type.Goals as goal

pub returns-in-Some-clause-exact : goal.returns-in-Some-clause-exact
returns-in-Some-clause-exact c = λ n. rw (ap (λ (G : NumberedGraph). G.rdf_type) (sym c.self.view_is) ∙ c.in-Some.is) (c.incoming.ensures.exact n)
