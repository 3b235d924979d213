use Rattle.nt_lex.proofs.ReadingLemmas.{says_once}
use Rattle.nt_lex.proofs.laws.law_one_answer.Goals as goal

pub returns : goal.returns
returns c = says_once
