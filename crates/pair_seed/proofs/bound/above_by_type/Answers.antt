use Rattle.std.proofs.Common.{◌<◌, arith}
use Rattle.chase_laws.specs.Candidate.{IsCandidateUnder}
use Rattle.pair_seed.proofs.Keys.{designated_by}
use Rattle.pair_seed.proofs.Bounding.{list_at_most}
use Rattle.pair_seed.proofs.bound.above_by_type.Goals as goal

pub returns : goal.returns
returns c = (
  omega (arith, c.if-all-room.false),
  list_at_most (λ b. (c.args.a < b) × IsCandidateUnder c.args.graph.now c.args.pattern.now c.args.a b) c.above.result.now
      (λ b h. (c.above.ensures.exact b).1 ((c.with_type.ensures.exact b).1 (designated_by c.args.graph.now c.args.pattern.now c.designated_type.result b c.designated_type.ensures h.1.right).1, h.0)),
)
