use Rattle.std.proofs.Common.{◌≤◌}
use Rattle.pair_seed.specs.Bounds.{AreAtMostBelow}
use Rattle.pair_seed.proofs.bound.bound_candidates.Given as goal

abbrev pub invariant-loop-a : goal.invariant-loop-a
invariant-loop-a l = record {
  few : l.all ≤ l.limit;
  most : AreAtMostBelow l.graph l.patterns l.a l.all;
}
