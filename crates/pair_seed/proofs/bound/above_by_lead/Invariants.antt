use Rattle.std.proofs.Common.{◌<◌, ◌≤◌, take}
use Rattle.pair_seed.specs.Bounds.{AreAtMost}
use Rattle.pair_seed.specs.Gathered.{HoldsOneOf}
use Rattle.pair_seed.proofs.bound.above_by_lead.Given as goal

abbrev pub invariant-loop-l : goal.invariant-loop-l
invariant-loop-l l = record {
  few : l.all ≤ l.room;
  most : AreAtMost (λ b. (l.a < b) × HoldsOneOf l.graph l.lead.folded l.lead.pred (take l.l-index l.l-items) b) l.all;
}
