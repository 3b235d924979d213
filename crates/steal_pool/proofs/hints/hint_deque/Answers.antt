use Rattle.steal_pool.proofs.HintMoves.{tells, pops, forks_none}
use Rattle.steal_pool.proofs.hints.hint_deque.Goals as goal

pub push_as-requires-clause-pushes : goal.push_as-requires-clause-pushes
push_as-requires-clause-pushes c = rw c.in_ok-deque.ensures.4 (tells _ _)

pub pop_as-requires-clause-lifo : goal.pop_as-requires-clause-lifo
pop_as-requires-clause-lifo c = λ _. pops _ _

pub another-requires : goal.another-requires
another-requires c = rw c.in_ok-deque.ensures.4 (forks_none _)
