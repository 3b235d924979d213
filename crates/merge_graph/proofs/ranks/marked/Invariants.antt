use Rattle.merge_graph.proofs.RankLemmas.{ListsBelow}
use Rattle.merge_graph.proofs.ranks.marked.Given as goal

abbrev pub invariant-loop-place : goal.invariant-loop-place
invariant-loop-place l = ListsBelow l.marks l.place l.listed.items
