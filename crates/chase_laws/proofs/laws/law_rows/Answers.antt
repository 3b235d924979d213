-- Each clause is a lemma.
use Rattle.chase_laws.proofs.SameRows.{derivation_too, able_too, candidate_too, closed_back, same_too}
use Rattle.chase_laws.proofs.laws.law_rows.Goals as goal

pub returns-clause-derivation : goal.returns-clause-derivation
returns-clause-derivation c = λ G F K there. derivation_too K G F there

pub returns-clause-able : goal.returns-clause-able
returns-clause-able c = λ G F K there. able_too K G F there

pub returns-clause-candidate : goal.returns-clause-candidate
returns-clause-candidate c = λ G F K there. candidate_too K G F there

pub returns-clause-closed : goal.returns-clause-closed
returns-clause-closed c = λ G F K there back H. (closed_back K F G back H, closed_back K G F there H)

pub returns-clause-same : goal.returns-clause-same
returns-clause-same c = λ G F K there back a b. (same_too K G F there a b, same_too K F G back a b)

pub returns-clause-candidates : goal.returns-clause-candidates
returns-clause-candidates c = λ G F K there back a b. (candidate_too K G F there a b, candidate_too K F G back a b)
