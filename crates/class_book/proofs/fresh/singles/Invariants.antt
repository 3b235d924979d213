use Rattle.std.proofs.Common.{ℕ, ◌≡◌, ◌<◌, ◌≤◌, length, [], ◌∷◌}
use Rattle.list_pool.specs.Pool.{list_at}
use Rattle.class_book.proofs.fresh.singles.Given as goal

abbrev pub invariant-loop-i : goal.invariant-loop-i
invariant-loop-i l = record {
  count : length l.members.lists ≡ l.n;
  cells : l.members.cells ≡ l.n;
  own : (k : ℕ) → k < l.i → list_at l.members.lists k ≡ k ∷ [];
  rest : (k : ℕ) → l.i ≤ k → list_at l.members.lists k ≡ [];
}
