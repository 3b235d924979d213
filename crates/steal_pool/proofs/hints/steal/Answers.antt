use Rattle.steal_pool.proofs.HintMoves.{takes}
use Rattle.steal_pool.proofs.hints.steal.Goals as goal

pub steal_as-requires-clause-takes : goal.steal_as-requires-clause-takes
steal_as-requires-clause-takes c = takes _ _

pub returns-in-Success-clause-hint : goal.returns-in-Success-clause-hint
returns-in-Success-clause-hint c = λ n is. let e = c.in-Success.ensures.rule.1 n is in e.0
