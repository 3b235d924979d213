use Rattle.std.proofs.Common.{◌≡◌, map, take}
use Rattle.why_pair.specs.Relinked.{relinked}
use Rattle.why_pair.proofs.relinking.relinked_supports.Given as goal

abbrev pub invariant-loop-support : goal.invariant-loop-support
invariant-loop-support l = l.made.items ≡ map (relinked l.ways l.kept l.entry) (take l.support-index l.supports)
