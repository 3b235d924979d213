-- The lemma is the law.
use Rattle.chase_laws.proofs.ChaseLaws.{IsStep-grows}
use Rattle.chase_laws.proofs.laws.law_step_grows.Goals as goal

pub returns : goal.returns
returns c = IsStep-grows
