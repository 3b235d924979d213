use Rattle.std.proofs.Common.{ℕ, ◌≡◌, ◌<◌, ◌≤◌, ◌+◌, ◌^◌, ◌∷◌, length, get_or, take, vec_capacity}
use Rattle.chase_laws.specs.Joined.{Joined}
use Rattle.label_board.proofs.open.first_words.Given as goal

abbrev pub invariant-loop-name : goal.invariant-loop-name
invariant-loop-name l = record {
  words : l.words.items ≡ length l.book.journal ∷ take l.name l.book.labels;
  room : l.names + 1 ≤ vec_capacity l.words;
  small : (n : ℕ) → n < l.name → get_or l.book.labels n 0 < 2 ^ 32;
  joined : (n : ℕ) → n < l.name → Joined l.book.journal n (get_or l.book.labels n 0);
}
