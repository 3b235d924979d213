-- The two lemmas are the law.
use Rattle.key_file.proofs.KeyLemmas.{key_facts, facts_key}
use Rattle.key_file.proofs.laws.law_key.Goals as goal

pub returns : goal.returns
returns c key = (key_facts key, facts_key key)
