use Rattle.std.proofs.Common.{All, ◌≤◌, length}
use Rattle.key_valuations.specs.Leading.{IsLeading}
use Rattle.key_valuations.proofs.leading.leading_of.Given as goal

abbrev pub invariant-loop-s : goal.invariant-loop-s
invariant-loop-s l = record {
  leading : All (IsLeading l.pattern) l.leading.items;
  few : length l.leading.items ≤ l.s;
}
