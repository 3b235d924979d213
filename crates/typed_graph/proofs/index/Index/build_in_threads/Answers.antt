use Rattle.std.proofs.Common.{[], ◌∷◌}
use Rattle.std.proofs.lemmas.Result.{IfOk-weaker}
use Rattle.typed_graph.proofs.Order.{rows_rise, firsts_kept, chain}
use Rattle.typed_graph.proofs.index.Index.build_in_threads.Goals as goal

pub from_sorted-requires-clause-rise : goal.from_sorted-requires-clause-rise
from_sorted-requires-clause-rise g c = rw c.deref.ensures.value (rows_rise c.sorted_in_threads-rows.result.items c.sorted_in_threads-rows.ensures.three c.sorted_in_threads-rows.ensures.ascending)

pub from_sorted-requires-clause-named : goal.from_sorted-requires-clause-named
from_sorted-requires-clause-named g c = rw c.deref.ensures.value (firsts_kept _ _ c.args.names c.sorted_in_threads-rows.ensures.same c.requires)

pub returns : goal.returns
returns g c =
    IfOk-weaker c.from_sorted.result _ _ (λ t made n p m. chain _ _ _ (rw c.deref.ensures.value at (made n p m)) (c.sorted_in_threads-rows.ensures.same (n ∷ p ∷ m ∷ []))) c.from_sorted.ensures
