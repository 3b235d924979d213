use Rattle.std.proofs.Common.{IfSome}
use Rattle.pair_seed.specs.Key.{IsLead}
use Rattle.pair_seed.proofs.lead.choose.Given as goal

abbrev pub invariant-loop-place : goal.invariant-loop-place
invariant-loop-place l = IfSome l.best (λ choice. IsLead l.pattern choice.lead)
