-- Each clause is a lemma.
use Rattle.chase_core.proofs.Holdings.{held_longer, held_right}
use Rattle.chase_core.proofs.held_law.law_held.Goals as goal

pub returns-clause-stays : goal.returns-clause-stays
returns-clause-stays c = held_longer

pub returns-clause-right : goal.returns-clause-right
returns-clause-right c = held_right
