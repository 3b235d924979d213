use Rattle.std.proofs.Common.{◌≡◌, ◌≤◌, length}
use Rattle.board_tests.proofs.posts.enter_all.Given as goal

abbrev pub invariant-loop-i : goal.invariant-loop-i
invariant-loop-i l = record {
  board : l.scribe.board ≡ l.board.id;
  names : length l.book.labels ≡ l.board.names;
  posted : l.scribe.posted ≡ l.book.journal;
  room : l.book.room ≡ l.count;
  few : length l.book.journal ≤ l.i;
}
