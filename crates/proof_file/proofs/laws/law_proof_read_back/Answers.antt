use Rattle.std.proofs.Common.{Ok}
use Rattle.proof_file.proofs.ReadBack.{proof_again}
use Rattle.proof_file.proofs.ReadableLemmas.{says_readable}
use Rattle.proof_file.proofs.ToldLemmas.{told_readable}
use Rattle.proof_file.proofs.laws.law_proof_read_back.Goals as goal

pub returns-clause-back : goal.returns-clause-back
returns-clause-back c = proof_again

pub returns-clause-said : goal.returns-clause-said
returns-clause-said c limit bytes steps small says = says_readable limit bytes (Ok steps) small says

pub returns-clause-told : goal.returns-clause-told
returns-clause-told c names K key_names H steps spelled patterns named few_names few sup told = told_readable names K key_names c.law_pattern.ensures.facts spelled patterns named H steps few sup told few_names
