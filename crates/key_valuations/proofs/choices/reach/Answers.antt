-- An edge between a number that is placed and the new one.
use Rattle.std.proofs.Common.{arith}
use Rattle.key_valuations.proofs.BlockLaws.{row_out, row_in, out_row, in_row}
use Rattle.key_valuations.proofs.choices.reach.Goals as goal

pub returns-then-from-len : goal.returns-then-from-len
returns-then-from-len c = λ m. (
  (λ found. out_row c.args.graph.now c.args.places.now m c.args.edge c.requires (omega arith) (rw c.get.ensures at ((c.outgoing.ensures.exact m).0 found))),
  (λ holds. (c.outgoing.ensures.exact m).1 (rw c.get.ensures (row_out c.args.graph.now c.args.places.now m c.args.edge c.requires (omega arith) holds))),
)

pub returns-else-from-len : goal.returns-else-from-len
returns-else-from-len c = λ m. (
  (λ found. in_row c.args.graph.now c.args.places.now m c.args.edge c.requires (omega arith) (rw c.get-else-from-len.ensures at ((c.incoming.ensures.exact m).0 found))),
  (λ holds. (c.incoming.ensures.exact m).1 (rw c.get-else-from-len.ensures (row_in c.args.graph.now c.args.places.now m c.args.edge c.requires (omega arith) holds))),
)
