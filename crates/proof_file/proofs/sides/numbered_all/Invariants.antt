use Rattle.std.proofs.Common.{◌≡◌, length}
use Rattle.proof_file.specs.Words.{words_of}
use Rattle.proof_file.specs.ProofText.{numbered_all}
use Rattle.proof_file.specs.Progress.{more_of}
use Rattle.proof_file.proofs.sides.numbered_all.Given as goal

abbrev pub invariant-loop-word : goal.invariant-loop-word
invariant-loop-word l = more_of l.numbers.items (numbered_all l.listed (words_of l.rest)) ≡ numbered_all l.listed (words_of l.words)

abbrev pub decreases-loop-word : goal.decreases-loop-word
decreases-loop-word l = length l.rest
