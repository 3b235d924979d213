use Rattle.std.proofs.Common.{Contains, take}
use Rattle.pair_seed.specs.Gathered.{Gathered}
use Rattle.pair_seed.proofs.gather.gather.Given as goal

abbrev pub invariant-loop-b : goal.invariant-loop-b
invariant-loop-b l = Gathered l.graph l.pattern l.a l.initial.near.items l.near.items (λ b. Contains (take l.b-index l.bs) b)
