use Rattle.std.proofs.Common.{ℕ, ◌≡◌, ◌<◌, ◌+◌, length, take, get_or}
use Rattle.list_pool.specs.Counts.{times}
use Rattle.near_lists.proofs.turn.tally.Given as goal

abbrev pub invariant-loop-item : goal.invariant-loop-item
invariant-loop-item l = record {
  one_each : length l.tallies ≡ length l.fn.tallies;
  each : (n : ℕ) → n < length l.fn.tallies → get_or l.tallies n 0 ≡ get_or l.fn.tallies n 0 + times (take l.item-index l.items) n;
}
