use Rattle.key_lang.proofs.OnceLemmas.{only_told}
use Rattle.key_lang.proofs.file.read_keys.Goals as goal

pub returns-clause-only : goal.returns-clause-only
returns-clause-only c = only_told c.args.limit c.args.bytes.now _ c.keys_answer.ensures
