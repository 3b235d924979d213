use Rattle.std.proofs.Common.{◌≤◌, length}
use Rattle.pair_seed.specs.Gathered.{AreCandidatesFrom}
use Rattle.pair_seed.proofs.candidates.pairs_in_turn.Given as goal

abbrev pub invariant-loop-a : goal.invariant-loop-a
invariant-loop-a l = record {
  pairs : AreCandidatesFrom l.graph l.patterns l.from l.a l.pairs.items;
  few : length l.pairs.items ≤ l.limit;
}
