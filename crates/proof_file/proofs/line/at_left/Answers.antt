use Rattle.proof_file.proofs.LineLemmas.{left_done}
use Rattle.proof_file.proofs.line.at_left.Goals as goal

pub returns-clause-done : goal.returns-clause-done
returns-clause-done c = left_done c.args.terms.now c.side.new.terms c.args.known c.args.key c.args.line.now c.in_ok-left.left c.in_ok-left.ensures.grown c.requires.below c.in_ok-left.ensures.told
