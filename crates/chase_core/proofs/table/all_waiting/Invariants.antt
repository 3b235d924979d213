use Rattle.std.proofs.Common.{◌≡◌, length}
use Rattle.std.specs.List.{range_with_len}
use Rattle.list_pool.specs.Pool.{list_at}
use Rattle.chase_core.proofs.table.all_waiting.Given as goal

abbrev pub invariant-loop-pair : goal.invariant-loop-pair
invariant-loop-pair l = record {
  count : length l.waiting.lists ≡ 1;
  cells : l.waiting.cells ≡ l.count;
  list : list_at l.waiting.lists 0 ≡ range_with_len 0 l.pair;
}
