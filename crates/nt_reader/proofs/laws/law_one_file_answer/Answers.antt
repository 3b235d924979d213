use Rattle.nt_reader.proofs.OneFile.{file_once}
use Rattle.nt_reader.proofs.laws.law_one_file_answer.Goals as goal

pub returns : goal.returns
returns c = file_once
