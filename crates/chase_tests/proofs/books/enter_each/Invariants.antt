use Rattle.std.proofs.Common.{◌≡◌, length}
use Rattle.chase_tests.proofs.books.enter_each.Given as goal

abbrev pub invariant-loop-a : goal.invariant-loop-a
invariant-loop-a g l = record {
  count : length l.book.labels ≡ 4;
  room : l.book.room ≡ 3;
}
