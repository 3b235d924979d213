use Rattle.std.proofs.Common.{◌≡◌, ◌++◌, length}
use Rattle.std.specs.Option.{option_map}
use Rattle.proof_file.specs.Words.{words_of}
use Rattle.proof_file.specs.ProofText.{step_numbers}
use Rattle.proof_file.proofs.statements.step_numbers.Given as goal

abbrev pub invariant-loop-word : goal.invariant-loop-word
invariant-loop-word l = option_map (λ ns. l.numbers.items ++ ns) (step_numbers (words_of l.rest)) ≡ step_numbers (words_of l.words)

abbrev pub decreases-loop-word : goal.decreases-loop-word
decreases-loop-word l = length l.rest
