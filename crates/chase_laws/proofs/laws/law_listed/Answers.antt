-- The lemma is the law.
use Rattle.chase_laws.proofs.SignatureLaws.{listed_settled}
use Rattle.chase_laws.proofs.laws.law_listed.Goals as goal

pub returns : goal.returns
returns c = listed_settled
