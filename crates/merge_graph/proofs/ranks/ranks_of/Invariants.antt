use Rattle.std.proofs.Common.{◌≡◌, length, take, All}
use Rattle.merge_graph.specs.Ranked.{HasRank}
use Rattle.merge_graph.proofs.ranks.ranks_of.Given as goal

abbrev pub invariant-loop-rank : goal.invariant-loop-rank
invariant-loop-rank l = record {
  long : length l.ranks.items ≡ l.count;
  ranked : All (HasRank l.order l.ranks.items) (take l.rank l.order);
}
