use Rattle.std.proofs.Common.{All, ◌<◌}
use Rattle.steal_pool.proofs.alone.deal_alone.Given as goal

abbrev pub invariant-loop-pair : goal.invariant-loop-pair
invariant-loop-pair l = All (λ p. p < l.count) l.hints.items
