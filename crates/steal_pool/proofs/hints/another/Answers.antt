use Rattle.steal_pool.proofs.HintMoves.{forks}
use Rattle.steal_pool.proofs.hints.another.Goals as goal

pub another-requires : goal.another-requires
another-requires c = forks _ _ _ c.requires.1
