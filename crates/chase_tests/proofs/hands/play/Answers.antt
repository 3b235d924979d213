-- What a hand holds stays good while the other hand acts.
use Rattle.std.proofs.Common.{List, ◌≡◌, ◌++◌, sym, subst, ◌∙◌, ap}
use Rattle.std.specs.Option.{ForSome}
use Rattle.chase_laws.specs.declared.entry.Entry.{Entry}
use Rattle.chase_tests.specs.declared.hands.Hand.{Hand}
use Rattle.chase_core.specs.Setup.{Preparation}
use Rattle.chase_core.specs.Running.{Running}
use Rattle.chase_core.specs.Holding.{IsHeld}
use Rattle.chase_core.proofs.CallerLemmas.{held_longer}
use Rattle.chase_tests.proofs.hands.play.Goals as goal
use Rattle.chase_tests.proofs.hands.play.Goals.{then-is_left, else-is_left}

still_held : (old new : Running) (hand : Hand) → new.setup ≡ old.setup → (more : List Entry) × (new.book.journal ≡ old.book.journal ++ more) →
    ForSome hand.ticket (λ t. IsHeld old.setup.task old.book.journal t hand.view.pairs) → ForSome hand.ticket (λ t. IsHeld new.setup.task new.book.journal t hand.view.pairs)
still_held old new hand setup grows held t e =
    subst (λ (S : Preparation). IsHeld S.task new.book.journal t hand.view.pairs) (sym setup)
    (subst (λ H. IsHeld old.setup.task H t hand.view.pairs) (sym grows.1) (held_longer old.setup.task old.book.journal grows.0 t hand.view.pairs (held t e)))

pub loop-place-preserved : goal.loop-place-preserved
loop-place-preserved g c =
    let v = c.loop-place.invariant in
    elim c.if-is_left.branch [
      | then-is_left w ↦
          (let e = w.does-is_right.ensures in
          let old = c.loop-place.chase in
          let new = w.does-is_right.new.chase in
          record {
            setup = ap (λ (C : Running). C.setup) w.chase-is ∙ e.setup ∙ v.setup;
            left_room = ap (λ (h : Hand). h.view.room) w.left-is ∙ e.room ∙ v.left_room;
            right_room = ap (λ (h : Hand). h.view.room) w.right-is ∙ v.right_room;
            left_held = rw (w.chase-is, w.left-is) (still_held old new w.does-is_right.new.hand e.setup e.grows e.held);
            right_held = rw (w.chase-is, w.right-is) (still_held old new c.loop-place.right e.setup e.grows v.right_held);
          })
      | else-is_left w ↦
          (let e = w.does-is_right-else-is_left.ensures in
          let old = c.loop-place.chase in
          let new = w.does-is_right-else-is_left.new.chase in
          record {
            setup = ap (λ (C : Running). C.setup) w.chase-is ∙ e.setup ∙ v.setup;
            left_room = ap (λ (h : Hand). h.view.room) w.left-is ∙ v.left_room;
            right_room = ap (λ (h : Hand). h.view.room) w.right-is ∙ e.room ∙ v.right_room;
            left_held = rw (w.chase-is, w.left-is) (still_held old new c.loop-place.left e.setup e.grows v.left_held);
            right_held = rw (w.chase-is, w.right-is) (still_held old new w.does-is_right-else-is_left.new.hand e.setup e.grows e.held);
          })
    ]
