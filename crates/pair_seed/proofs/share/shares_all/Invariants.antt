use Rattle.std.proofs.Common.{ℕ, ◌<◌}
use Rattle.pair_seed.specs.Key.{SharesAtPlace}
use Rattle.pair_seed.proofs.share.shares_all.Given as goal

abbrev pub invariant-loop-place : goal.invariant-loop-place
invariant-loop-place l = (k : ℕ) → k < l.place → SharesAtPlace l.graph l.pattern k l.a l.b
