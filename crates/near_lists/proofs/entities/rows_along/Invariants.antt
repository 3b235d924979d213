use Rattle.std.proofs.Common.{◌≡◌, length, All}
use Rattle.std.specs.List.Sorted.{IsStrictlyIncreasing}
use Rattle.near_lists.specs.Neighbourhoods.{AreNearOfFirst}
use Rattle.near_lists.proofs.entities.rows_along.Given as goal

abbrev pub invariant-loop-e : goal.invariant-loop-e
invariant-loop-e l = record {
  one_each : length l.near ≡ l.e;
  ascending : All IsStrictlyIncreasing l.near;
  exact : AreNearOfFirst l.graph l.patterns l.near;
}
