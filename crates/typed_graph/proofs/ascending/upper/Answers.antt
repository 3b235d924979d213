-- The partition point of the test.
use Rattle.std.proofs.Common.{leb, rules, arith}
use Rattle.std.proofs.lemmas.Bool.{leb-true, leb-false}
use Rattle.std.proofs.lemmas.List.Sorted.{IsPartitionPoint-from_clause, IsPartitionedBy-leb}
use Rattle.typed_graph.proofs.ascending.upper.Goals as goal

pub returns-clause-below : goal.returns-clause-below
returns-clause-below c = λ k h. leb-true _ _ ((IsPartitionPoint-from_clause (λ y. leb y c.args.x) c.args.xs.now c.partition_point.result c.partition_point.ensures.partitioned (IsPartitionedBy-leb (λ y. y) c.args.xs.now c.args.x c.requires) (λ a r f' q. search rules)).0 k 0 (omega arith) h)

pub returns-clause-above : goal.returns-clause-above
returns-clause-above c = λ k h in_k. leb-false _ _ ((IsPartitionPoint-from_clause (λ y. leb y c.args.x) c.args.xs.now c.partition_point.result c.partition_point.ensures.partitioned (IsPartitionedBy-leb (λ y. y) c.args.xs.now c.args.x c.requires) (λ a r f' q. search rules)).1 k 0 h in_k)
