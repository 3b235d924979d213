use Rattle.nt_reader.proofs.TotalLemmas.{file_total}
use Rattle.nt_reader.proofs.laws.law_each_file_answers.Goals as goal

pub returns : goal.returns
returns c = file_total
