-- The partition point of the test.
use Rattle.std.proofs.Common.{ℕ, ltb, rules, arith}
use Rattle.std.proofs.lemmas.Bool.{ltb-true, ltb-false}
use Rattle.std.proofs.lemmas.List.Sorted.{IsPartitionPoint-from_clause, IsPartitionedBy-ltb}
use Rattle.paired_search.proofs.Labels.{ascends_weakly}
use Rattle.paired_search.proofs.view.count_below.Goals as goal

pub returns : goal.returns
returns c =
    let point = IsPartitionPoint-from_clause (λ (y : ℕ × ℕ). ltb y.0 c.args.node) c.args.pairs.now c.partition_point.result c.partition_point.ensures.partitioned
    (IsPartitionedBy-ltb (λ (y : ℕ × ℕ). y.0) c.args.pairs.now c.args.node (ascends_weakly c.args.pairs.now c.requires)) (λ a r f' q. search rules) in
    record {
      within = c.partition_point.ensures.bound;
      below = λ k d h. ltb-true _ _ (point.0 k d (omega arith) h);
      above = λ k d h l. ltb-false _ _ (point.1 k d h l);
    }
