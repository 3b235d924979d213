-- Each clause is a lemma.
use Rattle.chase_laws.proofs.Patterns.{pattern_facts}
use Rattle.chase_laws.proofs.Walks.{walked_reached, reached_walked, reached_later, enough, connected}
use Rattle.chase_laws.proofs.laws.law_pattern.Goals as goal

pub returns-clause-facts : goal.returns-clause-facts
returns-clause-facts c = pattern_facts

pub returns-clause-reached : goal.returns-clause-reached
returns-clause-reached c = λ Q n s. (reached_walked Q n s, (λ w. reached_later Q w.0 n s w.1 (walked_reached Q w.0 s w.2)))

pub returns-clause-enough : goal.returns-clause-enough
returns-clause-enough c = enough

pub returns-clause-connected : goal.returns-clause-connected
returns-clause-connected c = connected
