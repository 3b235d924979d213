-- The lemma is the law.
use Rattle.chase_laws.proofs.SameLaws.{same_closed}
use Rattle.chase_laws.proofs.laws.law_same.Goals as goal

pub returns : goal.returns
returns c = same_closed
