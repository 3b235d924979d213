-- The two ends may be taken in either order.
use Rattle.std.proofs.Common.{slice_index}
use Rattle.chase_core.specs.Gathering.{LooksAcross}
use Rattle.chase_core.proofs.Aside.{aside_same}
use Rattle.chase_core.proofs.Across.{turned_across}
use Rattle.chase_core.proofs.gather.gather_across.Goals as goal

pub returns-else-size-clause-sets : goal.returns-else-size-clause-sets
returns-else-size-clause-sets c =
    let S = c.args.setup.now in
    let labels = c.args.book.now.labels in
    let x = slice_index labels c.args.a in
    let y = slice_index labels c.args.b in
    let after = c.gather_class-else-size.new in
    aside_same (LooksAcross S labels y x) (LooksAcross S labels x y) c.args.table.now after.table c.args.aside.now.items after.aside.items
    (λ q. (turned_across S labels y x q, turned_across S labels x y q)) c.gather_class-else-size.ensures.sets
