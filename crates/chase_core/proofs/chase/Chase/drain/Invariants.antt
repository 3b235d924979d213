use Rattle.std.proofs.Common.{List, ◌≡◌, ◌++◌}
use Rattle.chase_laws.specs.declared.entry.Entry.{Entry}
use Rattle.chase_laws.specs.Core.{Event, Run}
use Rattle.chase_core.specs.Running.{state_in, IsRunning}
use Rattle.chase_core.proofs.Draining.{HaveLanded, left_to_do}
use Rattle.chase_core.proofs.chase.Chase.drain.Given as goal

abbrev pub invariant-loop-ticket : goal.invariant-loop-ticket
invariant-loop-ticket l = record {
  setup : l.self.setup ≡ l.fn.self.setup;
  woken_room : l.woken.room ≡ l.fn.woken.room;
  running : IsRunning l.self;
  landed : HaveLanded l.self;
  run : (events : List Event) × Run l.fn.self.setup.task (state_in l.fn.self) events (state_in l.self);
  grows : (more : List Entry) × (l.self.book.journal ≡ l.fn.self.book.journal ++ more);
}

abbrev pub decreases-loop-ticket : goal.decreases-loop-ticket
decreases-loop-ticket l = left_to_do l.self
