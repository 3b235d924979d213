use Rattle.std.proofs.Common.{◌≡◌}
use Rattle.std.specs.Option.{ForSome}
use Rattle.chase_core.specs.Holding.{IsHeld}
use Rattle.chase_tests.proofs.hands.play.Given as goal

abbrev pub invariant-loop-place : goal.invariant-loop-place
invariant-loop-place g l = record {
  setup : l.chase.setup ≡ l.fn.chase.setup;
  left_room : l.left.view.room ≡ l.fn.left.view.room;
  right_room : l.right.view.room ≡ l.fn.right.view.room;
  left_held : ForSome l.left.ticket (λ t. IsHeld l.chase.setup.task l.chase.book.journal t l.left.view.pairs);
  right_held : ForSome l.right.ticket (λ t. IsHeld l.chase.setup.task l.chase.book.journal t l.right.view.pairs);
}
