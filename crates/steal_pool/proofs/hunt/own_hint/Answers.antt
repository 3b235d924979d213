use Rattle.steal_pool.proofs.hunt.own_hint.Goals as goal

pub returns-clause-hint : goal.returns-clause-hint
returns-clause-hint c = c.pop-2.ensures.hint _ c.requires.own.bound
