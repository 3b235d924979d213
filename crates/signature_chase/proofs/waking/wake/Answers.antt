-- The node is of the class whose label goes.
use Rattle.std.proofs.Common.{ℕ, Bool, true, false, ◌≡◌, ◌<◌, slice_index, length, sym, ◌∙◌, ap, subst, arith}
use Rattle.std.proofs.lemmas.Bool.{cond-true, cond-false}
use Rattle.class_book.specs.Classes.{first_stays, going}
use Rattle.signature_chase.proofs.waking.wake.Goals as goal
use Rattle.signature_chase.proofs.waking.wake.Goals.{then-keeps_label, else-keeps_label}

pub returns-clause-woken : goal.returns-clause-woken
returns-clause-woken c = λ m g in_m same h.
    let labels = c.args.book.now.labels in
    let x = slice_index labels c.args.a in
    let y = slice_index labels c.args.b in
    let goes : going labels x y ≡ slice_index labels c.if-keeps_label.node = elim c.if-keeps_label.branch [
      | then-keeps_label w ↦ cond-true (first_stays labels x y) y x (sym c.keeps_label.ensures ∙ w.if-keeps_label.true) ∙ ap (slice_index labels) (sym w.node-is)
      | else-keeps_label w ↦ cond-false (first_stays labels x y) y x (sym c.keeps_label.ensures ∙ w.if-keeps_label.false) ∙ ap (slice_index labels) (sym w.node-is)
    ] in
    c.wake_class.ensures.woken m g in_m (same ∙ goes) h
