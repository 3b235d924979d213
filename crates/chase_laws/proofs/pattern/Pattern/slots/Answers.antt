-- The type keeps that the test holds.
use Rattle.std.proofs.Common.{subst}
use Rattle.chase_laws.specs.Shape.{IsPattern}
use Rattle.chase_laws.proofs.pattern.Pattern.slots.Goals as goal

pub returns-clause-facts : goal.returns-clause-facts
returns-clause-facts c = c.law_pattern.ensures.facts c.args.self.now (subst IsPattern c.self.view_is c.self.invariant)
