use Rattle.std.proofs.Common.{sym, ◌∙◌, true≢false}
use Rattle.proof_file.specs.ProofText as text
use Rattle.proof_file.specs.Progress.{progress_with}
use Rattle.proof_file.proofs.LineLemmas.{text_done}
use Rattle.proof_file.proofs.line.after_line.Goals as goal

pub returns-then-not-is_utf8-clause-done : goal.returns-then-not-is_utf8-clause-done
returns-then-not-is_utf8-clause-done c = text.no_utf8 (λ u. true≢false (sym (c.is_utf8.ensures.1 u) ∙ c.if-not-is_utf8.true))

pub returns-clause-done : goal.returns-clause-done
returns-clause-done c =
    text_done c.at_stage.new.terms (progress_with c.args.terms.now c.args.progress) c.args.line.now c.at_stage.result (c.is_utf8.ensures.0 c.if-not-is_utf8.false) c.at_stage.ensures.done
