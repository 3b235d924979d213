use Rattle.std.proofs.Common.{Ok, length, sym, ap, ◌∙◌}
use Rattle.proof_file.specs.ProofText.{AtCount, after_count}
use Rattle.proof_file.specs.Progress.{state_with}
use Rattle.proof_file.proofs.line.at_count.Goals as goal

pub returns-in-Ok : goal.returns-in-Ok
returns-in-Ok c = λ names below. (
  ap (λ s. Ok (state_with names c.args.known s)) (c.stage_of_terms.ensures.stage names) ∙ ap (after_count (state_with names c.args.known AtCount)) (sym c.in-Ok.is ∙ c.count.ensures),
  record { known = below; stage = c.stage_of_terms.ensures.below (length names) },
)
