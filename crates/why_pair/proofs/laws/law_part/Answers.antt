use Rattle.why_pair.proofs.KeptLemmas.{kept_lean}
use Rattle.why_pair.proofs.PartLemmas.{kept_derivation}
use Rattle.why_pair.proofs.ToldLemmas.{can_be_told}
use Rattle.why_pair.proofs.laws.law_part.Goals as goal

pub returns-clause-derivation : goal.returns-clause-derivation
returns-clause-derivation c G K H marks derivation closed = let told = can_be_told G K H derivation in kept_derivation told.0 K H told.1 marks closed G derivation

pub returns-clause-lean : goal.returns-clause-lean
returns-clause-lean c H marks lean = kept_lean marks H lean
