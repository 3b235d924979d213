use Rattle.key_lang.proofs.ReadBack.{keys_again}
use Rattle.key_lang.proofs.laws.law_keys_read_back.Goals as goal

pub returns : goal.returns
returns c = keys_again
