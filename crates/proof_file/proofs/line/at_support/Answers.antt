use Rattle.std.proofs.Common.{Ok, sym, ap, ◌∙◌}
use Rattle.proof_file.specs.ProofText.{support_or_done_of}
use Rattle.proof_file.specs.Words.{words_of}
use Rattle.proof_file.proofs.LineLemmas.{step_done}
use Rattle.proof_file.proofs.line.at_support.Goals as goal

pub returns-in_ok-push-in-None : goal.returns-in_ok-push-in-None
returns-in_ok-push-in-None c = λ names below inside.
    step_done names c.args.known c.args.step c.push.new.self (support_or_done_of (words_of c.args.line.now)) c.in_ok-push-in-None.ensures.items (ap Ok (sym c.in-None.is) ∙ c.in_ok-support.ensures) below inside
