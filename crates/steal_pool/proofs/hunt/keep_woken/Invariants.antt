use Rattle.std.proofs.Common.{All, ◌<◌}
use Rattle.steal_pool.proofs.hunt.keep_woken.Given as goal

abbrev pub invariant-loop-k : goal.invariant-loop-k
invariant-loop-k l = All (λ p. p < l.count) l.pending.items
