use Rattle.std.proofs.Common.{◌≡◌, length}
use Rattle.std.specs.List.{range_with_len}
use Rattle.list_pool.specs.Pool.{list_at}
use Rattle.signature_chase.proofs.queue.all_waiting.Given as goal

abbrev pub invariant-loop-group : goal.invariant-loop-group
invariant-loop-group l = record {
  count : length l.pool.lists ≡ 1;
  cells : l.pool.cells ≡ l.count;
  list : list_at l.pool.lists 0 ≡ range_with_len 0 l.group;
}
