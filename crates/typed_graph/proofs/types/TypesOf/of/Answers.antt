-- The list that the table gives has the types.
use Rattle.std.proofs.Common.{Contains}
use Rattle.typed_graph.specs.Table.{TableHas}
use Rattle.typed_graph.proofs.KeptTypes.{true_same}
use Rattle.typed_graph.proofs.types.TypesOf.of.Goals as goal

pub returns-in-Some : goal.returns-in-Some
returns-in-Some c = rw c.in-Some.is (true_same c.listed.result (λ t. Contains c.find.result.now t) (λ t. TableHas c.args.forward.now c.args.n c.in-Some.p t) c.find.ensures.exact c.listed.ensures)
