use Rattle.std.proofs.Common.{map}
use Rattle.std.proofs.lemmas.Result.{err_from_is_err_and}
use Rattle.proof_file.specs.Steps.{term_at}
use Rattle.proof_file.specs.ProofText.{AtRight}
use Rattle.proof_file.specs.Progress.{state_with}
use Rattle.proof_file.proofs.LineLemmas.{right_done, right_stops}
use Rattle.proof_file.proofs.line.at_right.Goals as goal

pub returns-in_err-right-clause-done : goal.returns-in_err-right-clause-done
returns-in_err-right-clause-done c =
    let p = err_from_is_err_and c.from_residual.result c.from_residual.ensures.1 in
    let left = map (term_at c.args.terms.now) c.args.left.items in
    rw (p.1, p.2)
    (right_stops c.side.new.terms (state_with c.args.terms.now c.args.known (AtRight c.args.key left)) c.args.key c.args.line.now left c.in_err-right.field-0.0 c.in_err-right.ensures.told)

pub returns-clause-done : goal.returns-clause-done
returns-clause-done c =
    right_done c.args.terms.now c.side.new.terms c.args.known c.args.key c.args.line.now c.args.left c.in_ok-right.right c.new.result c.new.ensures.items c.in_ok-right.ensures.grown c.requires.below c.requires.left
    c.in_ok-right.ensures.told
