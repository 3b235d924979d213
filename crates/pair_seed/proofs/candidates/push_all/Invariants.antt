use Rattle.std.proofs.Common.{◌≡◌, ◌++◌, map, take}
use Rattle.pair_seed.proofs.candidates.push_all.Given as goal

abbrev pub invariant-loop-b : goal.invariant-loop-b
invariant-loop-b l = l.pairs.items ≡ l.initial.pairs.items ++ map (λ b. (l.a, b)) (take l.b-index l.bs)
