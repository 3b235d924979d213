use Rattle.nt_reader.proofs.LinedLemmas.{cut_lined}
use Rattle.nt_reader.proofs.laws.law_lines_of_the_grammar.Goals as goal

pub returns : goal.returns
returns c = cut_lined
