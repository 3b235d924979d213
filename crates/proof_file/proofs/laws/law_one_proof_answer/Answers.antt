use Rattle.proof_file.proofs.OnceLemmas.{proof_once}
use Rattle.proof_file.proofs.TotalLemmas.{proof_total}
use Rattle.proof_file.proofs.laws.law_one_proof_answer.Goals as goal

pub returns-clause-one : goal.returns-clause-one
returns-clause-one c = proof_once

pub returns-clause-some : goal.returns-clause-some
returns-clause-some c = proof_total
