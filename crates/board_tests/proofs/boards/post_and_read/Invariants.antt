use Rattle.std.proofs.Common.{◌≡◌, length}
use Rattle.board_tests.proofs.boards.post_and_read.Given as goal

abbrev pub invariant-loop-name : goal.invariant-loop-name
invariant-loop-name g l = record {
  board : l.scribe.board ≡ l.board.id;
  posted : l.scribe.posted ≡ l.book.journal;
  shown : l.scribe.shown ≡ l.book.labels;
  labels : length l.book.labels ≡ l.board.names;
  entries : length l.book.journal ≡ l.name;
  book_room : l.book.room ≡ l.count;
  watcher : l.watcher.board ≡ l.board.id;
  room : l.view.room ≡ l.fn.view.room;
}
