use Rattle.std.proofs.Common.{ℕ, ◌≡◌, ◌<◌, length, map, get_or}
use Rattle.near_lists.specs.Owners.{ends_of, owners_below}
use Rattle.near_lists.proofs.pairs.pair_tallies.Given as goal

abbrev pub invariant-loop-a : goal.invariant-loop-a
invariant-loop-a l = record {
  one_each : length l.tallies.items ≡ l.names;
  each : (n : ℕ) → n < l.names → get_or l.tallies.items n 0 ≡ length (owners_below (map ends_of l.pairs) n l.a-index);
}
