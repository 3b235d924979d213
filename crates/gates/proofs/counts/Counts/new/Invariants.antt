use Rattle.std.proofs.Common.{◌≡◌, length}
use Rattle.gates.proofs.counts.Counts.new.Given as goal

abbrev pub invariant-loop-pair : goal.invariant-loop-pair
invariant-loop-pair l = length l.passed.items ≡ l.pair
