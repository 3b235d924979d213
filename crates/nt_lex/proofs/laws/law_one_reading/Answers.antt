use Rattle.nt_lex.proofs.ReadingLemmas.{reads_once}
use Rattle.nt_lex.proofs.laws.law_one_reading.Goals as goal

pub returns : goal.returns
returns c = reads_once
