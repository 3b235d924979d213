use Rattle.std.proofs.Common.{take}
use Rattle.chase_core.specs.Setup.{IsMost}
use Rattle.chase_core.proofs.setup.most_near.Given as goal

abbrev pub invariant-loop-a : goal.invariant-loop-a
invariant-loop-a l = IsMost l.near.near (take l.a-index l.pairs) l.most
