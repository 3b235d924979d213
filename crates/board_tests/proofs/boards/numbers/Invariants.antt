use Rattle.std.proofs.Common.{ℕ, ◌≡◌, ◌<◌, ◌≤◌, get_or, vec_len, vec_capacity}
use Rattle.board_tests.proofs.boards.numbers.Given as goal

abbrev pub invariant-loop-i : goal.invariant-loop-i
invariant-loop-i l = record {
  count : vec_len l.numbers ≡ l.i;
  room : l.count ≤ vec_capacity l.numbers;
  own : (k : ℕ) → k < l.i → get_or l.numbers.items k 0 ≡ k;
}
