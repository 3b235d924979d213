-- The holders of a literal.
use Rattle.std.proofs.Common.{Contains}
use Rattle.pair_seed.proofs.Keys.{lead_serves, lead_shares}
use Rattle.pair_seed.proofs.Steps.{gathered_by}
use Rattle.pair_seed.proofs.gather.gather_literal.Goals as goal

pub holders-requires-clause-folds : goal.holders-requires-clause-folds
holders-requires-clause-folds c = lead_serves c.args.graph.now c.args.pattern.now c.args.lead c.requires.lead c.args.folds.now c.requires.folds

pub gather-requires-clause-lead : goal.gather-requires-clause-lead
gather-requires-clause-lead c = λ b h. lead_shares c.args.graph.now c.args.pattern.now c.args.lead c.requires.lead c.args.a b c.args.l c.requires.row (c.is_literal.ensures.0 c.if-is_literal.true)
    ((c.holders.ensures.exact b).0 ((c.above-bs.ensures.exact b).0 h).0)

pub gather-requires-clause-above : goal.gather-requires-clause-above
gather-requires-clause-above c = λ b h. ((c.above-bs.ensures.exact b).0 h).1

pub returns-in_ok-gather : goal.returns-in_ok-gather
returns-in_ok-gather c = gathered_by c.args.graph.now c.args.pattern.now c.args.a c.args.near.now.items _ (λ b. Contains c.above-bs.result.now b) _ c.in_ok-gather.ensures (λ b mark above paired. (c.above-bs.ensures.exact b).1 ((c.holders.ensures.exact b).1 mark.1, above))
