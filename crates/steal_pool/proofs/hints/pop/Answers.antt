use Rattle.steal_pool.proofs.HintMoves.{pops, pop_hint}
use Rattle.steal_pool.proofs.hints.pop.Goals as goal

pub pop_as-requires-clause-lifo : goal.pop_as-requires-clause-lifo
pop_as-requires-clause-lifo c = λ _. pops _ _

pub returns-clause-hint : goal.returns-clause-hint
returns-clause-hint c = pop_hint c.pop_as.result _ _ _ c.pop_as.ensures.rule
