use Rattle.proof_file.proofs.OnceLemmas.{only_told}
use Rattle.proof_file.proofs.ReadableLemmas.{readable_told}
use Rattle.proof_file.proofs.read.read_proof.Goals as goal

pub returns-clause-only : goal.returns-clause-only
returns-clause-only c = only_told c.args.limit c.args.bytes.now _ c.proof_answer.ensures

pub returns-clause-readable : goal.returns-clause-readable
returns-clause-readable c = readable_told c.args.limit c.args.bytes.now _ c.proof_answer.ensures
