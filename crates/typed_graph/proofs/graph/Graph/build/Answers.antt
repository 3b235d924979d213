-- The two tables have the rows.
use Rattle.std.proofs.Common.{All, ◌≡◌, ◌<◌, length, map, ◌∙◌, ap}
use Rattle.typed_graph.specs.Blocks.{turned}
use Rattle.typed_graph.proofs.Order.{all_named, turned_firsts, has_turned, chain}
use Rattle.typed_graph.proofs.graph.Graph.build.Goals as goal

pub index_forward-requires-clause-named : goal.index_forward-requires-clause-named
index_forward-requires-clause-named c = all_named _ _ c.args.names c.sorted.ensures.same c.requires.named

pub build-requires : goal.build-requires
build-requires c =
    let rows = c.in_ok-forward.forward.rows.items in
    let three : All (λ row. length row ≡ 3) rows = rw c.in_ok-forward.ensures.rows c.sorted.ensures.three in
    let named : All (λ row. All (λ n. n < c.args.names) row) rows = rw c.in_ok-forward.ensures.rows (all_named _ _ c.args.names c.sorted.ensures.same c.requires.named) in
    let e : c.in_ok-turn.field-0.items ≡ map turned rows = c.in_ok-turn.ensures ∙ ap (map turned) c.deref.ensures.value in
    rw e (turned_firsts rows c.args.names three named)

pub assembled-requires-clause-backward : goal.assembled-requires-clause-backward
assembled-requires-clause-backward c = λ n p m.
    let rows = c.in_ok-forward.forward.rows.items in
    let three : All (λ row. length row ≡ 3) rows = rw c.in_ok-forward.ensures.rows c.sorted.ensures.three in
    let e : c.in_ok-turn.field-0.items ≡ map turned rows = c.in_ok-turn.ensures ∙ ap (map turned) c.deref.ensures.value in
    chain _ _ _ (rw e at (c.in_ok-backward.ensures n p m)) (has_turned rows three n p m)

pub assembled-requires-clause-named : goal.assembled-requires-clause-named
assembled-requires-clause-named c = rw c.requires.flags (rw c.in_ok-forward.ensures.rows (all_named _ _ c.args.names c.sorted.ensures.same c.requires.named))

pub returns-clause-rows : goal.returns-clause-rows
returns-clause-rows c = rw c.assembled.ensures.rows (rw c.in_ok-forward.ensures.rows c.sorted.ensures.same)
