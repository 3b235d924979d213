use Rattle.key_lang.proofs.OnceLemmas.{line_once}
use Rattle.key_lang.proofs.laws.law_one_line_answer.Goals as goal

pub returns : goal.returns
returns c = line_once
