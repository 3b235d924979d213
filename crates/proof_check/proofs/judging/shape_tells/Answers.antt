use Rattle.std.proofs.Common.{subst}
use Rattle.chase_laws.specs.Shape.{IsPattern}
use Rattle.proof_check.specs.Ready.{with_sides}
use Rattle.proof_check.proofs.StepLemmas.{has_places}
use Rattle.proof_check.proofs.judging.shape_tells.Goals as goal

pub returns : goal.returns
returns c = has_places c.args.pattern.now (with_sides c.args.step.now c.args.sides.now) (c.law_pattern.ensures.facts c.args.pattern.now (subst IsPattern c.pattern.view_is c.pattern.invariant)) c.requires
