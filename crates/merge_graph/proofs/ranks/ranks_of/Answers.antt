use Rattle.std.proofs.Common.{All, get_or, length-set, subst, sym, ◌<◌, ◌∙◌}
use Rattle.std.proofs.lemmas.List.{take_all}
use Rattle.merge_graph.specs.Ranked.{HasRank}
use Rattle.merge_graph.proofs.RankLemmas.{rank_more}
use Rattle.merge_graph.proofs.ranks.ranks_of.Goals as goal

pub loop-rank-preserved : goal.loop-rank-preserved
loop-rank-preserved c =
    let order = c.args.order.now in
    let i = c.loop-rank.rank in
    record {
      long = length-set c.loop-rank.ranks.items (get_or order i 0) i ∙ c.loop-rank.invariant.long;
      ranked = rank_more order c.loop-rank.ranks.items i c.loop-rank-test.true (subst (λ v. get_or order i 0 < v) (sym c.loop-rank.invariant.long) (c.requires.names i 0 c.loop-rank-test.true)) c.loop-rank.invariant.ranked;
    }

pub returns-clause-ranks : goal.returns-clause-ranks
returns-clause-ranks c = subst (All (HasRank c.args.order.now c.loop-rank.ranks.items)) (take_all c.loop-rank.rank c.args.order.now c.loop-rank-test.false) c.loop-rank.invariant.ranked
