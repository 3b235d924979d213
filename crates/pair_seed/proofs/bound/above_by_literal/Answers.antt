use Rattle.std.proofs.Common.{◌<◌}
use Rattle.chase_laws.specs.Graph.{IsLiteral}
use Rattle.pair_seed.specs.Folds.{Holds}
use Rattle.pair_seed.proofs.Bounding.{list_at_most}
use Rattle.pair_seed.proofs.bound.above_by_literal.Goals as goal

pub returns : goal.returns
returns c = list_at_most (λ b. (c.args.a < b) × IsLiteral c.args.graph.now c.args.l × Holds c.args.graph.now c.args.lead.folded b c.args.lead.pred c.args.l) c.above.result.now
    (λ b h. (c.above.ensures.exact b).1 ((c.holders.ensures.exact b).1 h.2, h.0))
