use Rattle.std.proofs.Common.{◌≡◌, ◌≤◌, ◌+◌, ◌-◌, length}
use Rattle.term_table.specs.Known.{AreKnown}
use Rattle.term_table.proofs.looking.look_along.Given as goal

abbrev pub invariant-loop-start : goal.invariant-loop-start
invariant-loop-start l =
    record {
      within : l.start ≤ l.fn.to;
      one_each : l.start ≡ l.fn.from + length l.known.items;
      known : AreKnown l.fn.names l.fn.terms l.fn.from l.known.items;
    }

abbrev pub decreases-loop-start : goal.decreases-loop-start
decreases-loop-start l = l.fn.to - l.start
