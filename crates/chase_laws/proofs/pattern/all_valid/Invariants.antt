use Rattle.std.proofs.Common.{All, take}
use Rattle.chase_laws.specs.Shape.{IsPattern}
use Rattle.chase_laws.proofs.pattern.all_valid.Given as goal

abbrev pub invariant-loop-pattern : goal.invariant-loop-pattern
invariant-loop-pattern l = All IsPattern (take l.pattern-index l.patterns)
