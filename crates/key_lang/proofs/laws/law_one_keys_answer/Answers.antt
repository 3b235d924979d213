use Rattle.key_lang.proofs.OnceLemmas.{keys_once}
use Rattle.key_lang.proofs.laws.law_one_keys_answer.Goals as goal

pub returns : goal.returns
returns c = keys_once
