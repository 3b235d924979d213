use Rattle.key_lang.proofs.FileFacts.{says_key_file}
use Rattle.key_lang.proofs.laws.law_key_file.Goals as goal

pub returns : goal.returns
returns c = says_key_file
