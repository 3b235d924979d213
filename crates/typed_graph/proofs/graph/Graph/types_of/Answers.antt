-- By what is kept, or since a number that is no name has no types.
use Rattle.std.proofs.Common.{subst, arith}
use Rattle.chase_laws.specs.Graph.{NumberedGraph, HasType}
use Rattle.typed_graph.specs.Indexed.{indexed_graph}
use Rattle.typed_graph.proofs.KeptTypes.{no_types}
use Rattle.typed_graph.proofs.graph.Graph.types_of.Goals as goal

pub returns-else-at-len : goal.returns-else-at-len
returns-else-at-len c = λ t. subst (λ (G : NumberedGraph). HasType G c.args.n t → ⊥) c.self.view_is (no_types (indexed_graph c.self.inside) c.args.n t c.self.invariant.graph (omega (arith, c.self.invariant.typed)))
