use Rattle.signature_chase.proofs.Chains.{empty_chains}
use Rattle.signature_chase.proofs.owners.Owners.new.Goals as goal

pub returns-clause-empty : goal.returns-clause-empty
returns-clause-empty c = λ n. empty_chains _ _ n c.new.ensures.items
