use Rattle.std.proofs.Common.{Contains}
use Rattle.pair_seed.proofs.Keys.{designated_by}
use Rattle.pair_seed.proofs.Steps.{gathered_by}
use Rattle.pair_seed.proofs.gather.gather_type.Goals as goal

pub gather-requires-clause-above : goal.gather-requires-clause-above
gather-requires-clause-above c = λ b h. ((c.above-bs.ensures.exact b).0 h).1

pub returns : goal.returns
returns c = gathered_by c.args.graph.now c.args.pattern.now c.args.a c.args.near.now.items _ (λ b. Contains c.above-bs.result.now b) _ c.in_ok-gather.ensures
    (λ b mark above paired. (c.above-bs.ensures.exact b).1 ((c.with_type.ensures.exact b).1 (designated_by c.args.graph.now c.args.pattern.now c.designated_type.result b c.designated_type.ensures paired.right).1, above))
