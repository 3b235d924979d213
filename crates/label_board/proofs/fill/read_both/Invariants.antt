use Rattle.std.proofs.Common.{◌≡◌, ◌+◌, ◌-◌, length}
use Rattle.paired_search.specs.Both.{IsWalkedTo}
use Rattle.label_board.proofs.fill.read_both.Given as goal

abbrev pub invariant-loop-i : goal.invariant-loop-i
invariant-loop-i l = record {
  table : l.watcher.table_id ≡ l.fn.watcher.table_id;
  since : l.watcher.me.0.since ≡ l.fn.watcher.me.0.since;
  read : l.watcher.me.0.read ≡ l.view.pairs;
  room : l.view.room ≡ l.fn.view.room;
  walked : IsWalkedTo l.left l.i l.right l.j l.view.pairs;
}

abbrev pub decreases-loop-i : goal.decreases-loop-i
decreases-loop-i l = (length l.left - l.i) + (length l.right - l.j)
