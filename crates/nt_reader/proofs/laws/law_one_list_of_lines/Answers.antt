use Rattle.nt_reader.proofs.LinedLemmas.{lined_once}
use Rattle.nt_reader.proofs.laws.law_one_list_of_lines.Goals as goal

pub returns : goal.returns
returns c = lined_once
