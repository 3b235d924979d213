-- Each order has the rows.
use Rattle.std.proofs.Common.{[], ◌∷◌, All, ◌≡◌, ◌↔◌, length, map, ◌∙◌, ap, sym}
use Rattle.typed_graph.specs.Blocks.{turned}
use Rattle.typed_graph.proofs.Order.{turned_firsts, has_turned, chain}
use Rattle.typed_graph.proofs.orders.both_orders.Goals as goal

flip : {A B : Type 0} → (A ↔ B) → (B ↔ A)
flip f = (f.1, f.0)

pub join-backward-requires-after_bounds : goal.join-backward-requires-after_bounds
join-backward-requires-after_bounds g c κs within =
    let e : c.in_ok-other_way.other_way.items ≡ map turned c.args.rows.items = c.in_ok-other_way.ensures ∙ ap (map turned) c.deref-2.ensures.value in
    ((rw e (turned_firsts c.args.rows.items c.args.names (rw (sym c.deref.ensures.value) c.three_each.ensures) c.requires.named), record { shared = c.type_bounds.sync-R.shared }), (c.requires.named, record { shared = c.type_bounds.sync-R.shared }))

pub returns-clause-backward : goal.returns-clause-backward
returns-clause-backward g c = λ n p m.
    let rows = c.args.rows.items in
    let e : c.in_ok-other_way.other_way.items ≡ map turned rows = c.in_ok-other_way.ensures ∙ ap (map turned) c.deref-2.ensures.value in
    let three : All (λ row. length row ≡ 3) rows = rw (sym c.deref.ensures.value) c.three_each.ensures in
    let same = rw c.in_ok-forward.was at c.join-backward.ensures.second in
    let table = rw c.in_ok-backward.was at c.join-backward.ensures.first in
    chain _ _ _ (rw e at (table n p m)) (chain _ _ _ (has_turned rows three n p m) (flip (same.1.1.0 (m ∷ p ∷ n ∷ []))))
