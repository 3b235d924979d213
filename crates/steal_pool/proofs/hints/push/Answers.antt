use Rattle.steal_pool.proofs.HintMoves.{pushes}
use Rattle.steal_pool.proofs.hints.push.Goals as goal

pub push_as-requires-clause-pushes : goal.push_as-requires-clause-pushes
push_as-requires-clause-pushes c = pushes _ _ _ _ c.requires.1 c.requires.2
