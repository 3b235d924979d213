-- The names of the view are near to the ends, so they have labels.
use Rattle.std.proofs.Common.{ℕ, ◌<◌, length, subst}
use Rattle.std.proofs.lemmas.Option.{slice_get_within, get_or_from_slice_get}
use Rattle.chase_core.proofs.Answering.{view_named}
use Rattle.chase_core.proofs.settle.overtaken.Goals as goal

pub label-now-requires : goal.label-now-requires
label-now-requires c =
    let view = c.args.view.now.pairs in
    let k = c.loop-place.place in
    let p : ℕ × ℕ = c.at-node.result in
    let at = c.at-node.ensures in
    let T = c.args.setup.now.task in
    let labels = c.args.book.now.labels in
    subst (λ (q : ℕ × ℕ). q.0 < length labels) (get_or_from_slice_get view k p (0, 0) at)
    (view_named T c.prepared.ensures.task labels c.requires.labels c.args.ticket.a c.args.ticket.b view c.len-place-end.ensures.ascends c.requires.view k (0, 0) (slice_get_within view k p at))
