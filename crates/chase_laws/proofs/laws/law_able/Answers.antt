-- The lemma is the law.
use Rattle.chase_laws.proofs.PairLaws.{able_candidate}
use Rattle.chase_laws.proofs.laws.law_able.Goals as goal

pub returns : goal.returns
returns c = able_candidate
