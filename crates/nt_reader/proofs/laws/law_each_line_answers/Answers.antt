use Rattle.nt_reader.proofs.TotalLemmas.{line_total}
use Rattle.nt_reader.proofs.laws.law_each_line_answers.Goals as goal

pub returns : goal.returns
returns c = line_total
