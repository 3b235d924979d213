-- The partition point of the test.
use Rattle.std.proofs.Common.{ltb, rules, arith}
use Rattle.std.proofs.lemmas.Bool.{ltb-true, ltb-false}
use Rattle.std.proofs.lemmas.List.Sorted.{IsPartitionPoint-from_clause, IsPartitionedBy-ltb}
use Rattle.typed_graph.proofs.ascending.lower_of_many.Goals as goal

pub returns-clause-below : goal.returns-clause-below
returns-clause-below c = λ k h. ltb-true _ _ ((IsPartitionPoint-from_clause (λ y. ltb y c.args.x) c.args.xs.now c.partition_point.result c.partition_point.ensures.partitioned (IsPartitionedBy-ltb (λ y. y) c.args.xs.now c.args.x c.requires) (λ a r f' q. search rules)).0 k 0 (omega arith) h)

pub returns-clause-above : goal.returns-clause-above
returns-clause-above c = λ k h in_k. ltb-false _ _ ((IsPartitionPoint-from_clause (λ y. ltb y c.args.x) c.args.xs.now c.partition_point.result c.partition_point.ensures.partitioned (IsPartitionedBy-ltb (λ y. y) c.args.xs.now c.args.x c.requires) (λ a r f' q. search rules)).1 k 0 h in_k)
