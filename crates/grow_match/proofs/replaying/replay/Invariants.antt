use Rattle.std.proofs.Common.{◌≡◌, take}
use Rattle.grow_match.specs.Replaying.{AreUnsearched}
use Rattle.grow_match.proofs.replaying.replay.Given as goal

abbrev pub invariant-loop-entry : goal.invariant-loop-entry
invariant-loop-entry l = record {
  journal : l.chase.book.journal ≡ take l.entry-index l.journal;
  states : AreUnsearched l.chase.table.states;
  setup : l.chase.setup ≡ l.fn.chase.setup;
  view_room : l.view.room ≡ l.fn.view.room;
  woken_room : l.woken.room ≡ l.fn.woken.room;
}
