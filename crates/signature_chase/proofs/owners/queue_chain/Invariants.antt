use Rattle.std.proofs.Common.{ℕ, Contains, length, ◌≡◌, ◌≤◌, ◌⊎◌}
use Rattle.signature_chase.specs.Owned.{chain}
use Rattle.signature_chase.proofs.owners.queue_chain.Given as goal

abbrev pub invariant-loop-at : goal.invariant-loop-at
invariant-loop-at l = record {
  within : l.at ≤ length l.owners;
  among : (g : ℕ) → Contains (chain l.owners (length l.owners) l.at) g → Contains (chain l.owners (length l.owners) l.head) g;
  rest : (g : ℕ) → Contains (chain l.owners (length l.owners) l.head) g → Contains l.queue.list g ⊎ Contains (chain l.owners (length l.owners) l.at) g;
  kept : (g : ℕ) → Contains l.fn.queue.list g → Contains l.queue.list g;
  count : l.queue.count ≡ l.fn.queue.count;
}

abbrev pub decreases-loop-at : goal.decreases-loop-at
decreases-loop-at l = l.at
