use Rattle.std.proofs.Common.{◌≡◌}
use Rattle.board_tests.proofs.boards.fill_all.Given as goal

abbrev pub invariant-loop : goal.invariant-loop
invariant-loop l = record {
  board : l.watcher.board ≡ l.board.id;
  room : l.view.room ≡ l.fn.view.room;
}
