use Rattle.pair_seed.specs.Gathered.{Found}
use Rattle.pair_seed.proofs.gather.find.Given as goal

abbrev pub invariant-loop-pattern : goal.invariant-loop-pattern
invariant-loop-pattern l = Found l.graph l.patterns l.a l.pattern-index l.near.items
