-- The lemma is the law.
use Rattle.chase_laws.proofs.EntityLaws.{same_by_joined}
use Rattle.chase_laws.proofs.laws.law_view.Goals as goal

pub returns : goal.returns
returns c = same_by_joined
