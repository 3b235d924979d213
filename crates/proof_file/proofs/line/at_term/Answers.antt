use Rattle.std.proofs.Common.{Ok, length, ap, ◌∙◌}
use Rattle.proof_file.specs.Steps.{term_at}
use Rattle.proof_file.specs.ProofText.{stage_of_terms}
use Rattle.proof_file.proofs.LineLemmas.{term_done}
use Rattle.proof_file.proofs.line.at_term.Goals as goal

pub returns-clause-done : goal.returns-clause-done
returns-clause-done c =
    let more = c.one_term.new.terms in
    let told = c.in_ok-number.ensures.told in
    let done = term_done c.args.terms.now more c.args.known c.args.count c.in_ok-number.number c.push.new.self c.stage_of_terms.result c.in_ok-push.ensures.items c.in_ok-number.ensures.grown c.requires.below told.1
    (c.stage_of_terms.ensures.stage more ∙ ap stage_of_terms c.saturating_sub.ensures) (c.stage_of_terms.ensures.below (length more))
    in
    ((Ok (term_at more c.in_ok-number.number), told.0, done.0), done.1)
