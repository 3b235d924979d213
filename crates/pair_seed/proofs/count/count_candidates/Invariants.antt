use Rattle.std.proofs.Common.{◌≤◌}
use Rattle.pair_seed.specs.Bounds.{AreSoManyBelow}
use Rattle.pair_seed.proofs.count.count_candidates.Given as goal

abbrev pub invariant-loop-a : goal.invariant-loop-a
invariant-loop-a l = record {
  few : l.count ≤ l.limit;
  counted : AreSoManyBelow l.graph l.patterns l.a l.count;
}
