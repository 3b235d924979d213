-- Each clause is a lemma.
use Rattle.chase_laws.proofs.PairLaws.{able_paired, able_paired_by}
use Rattle.chase_laws.proofs.laws.law_paired.Goals as goal

pub returns-clause-paired : goal.returns-clause-paired
returns-clause-paired c = able_paired_by

pub returns-clause-one_key : goal.returns-clause-one_key
returns-clause-one_key c = able_paired
