use Rattle.std.proofs.Common.{take}
use Rattle.pair_seed.specs.Gathered.{Gathered, HoldsOneOf}
use Rattle.pair_seed.proofs.gather.gather_lead.Given as goal

abbrev pub invariant-loop-l : goal.invariant-loop-l
invariant-loop-l l = Gathered l.graph l.pattern l.a l.initial.near.items l.near.items (HoldsOneOf l.graph l.lead.folded l.lead.pred (take l.l-index l.l-items))
