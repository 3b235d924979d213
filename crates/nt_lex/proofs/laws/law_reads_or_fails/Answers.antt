use Rattle.nt_lex.proofs.TotalLemmas.{says_total}
use Rattle.nt_lex.proofs.laws.law_reads_or_fails.Goals as goal

pub returns : goal.returns
returns c = says_total
