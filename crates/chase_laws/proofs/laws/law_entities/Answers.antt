-- The lemma is the law.
use Rattle.chase_laws.proofs.EntityLaws.{same_entities}
use Rattle.chase_laws.proofs.laws.law_entities.Goals as goal

pub returns : goal.returns
returns c = same_entities
