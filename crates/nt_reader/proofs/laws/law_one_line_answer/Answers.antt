use Rattle.nt_reader.proofs.LineLemmas.{line_once}
use Rattle.nt_reader.proofs.laws.law_one_line_answer.Goals as goal

pub returns : goal.returns
returns c = line_once
