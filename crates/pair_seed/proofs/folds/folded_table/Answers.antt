use Rattle.std.proofs.lemmas.Result.{IfOk-weaker}
use Rattle.typed_graph.proofs.CallerLemmas.{chain}
use Rattle.pair_seed.proofs.folds.folded_table.Goals as goal

pub returns : goal.returns
returns c = IfOk-weaker c.build.result _ _ (λ t made k p n. chain _ _ _ (made k p n) (c.in_ok-rows.ensures.rows k p n)) c.build.ensures
