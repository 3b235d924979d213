use Rattle.std.proofs.Common.{◌≡◌, length}
use Rattle.term_table.specs.Known.{AreKnown}
use Rattle.term_table.proofs.ahead.Ahead.note_same.Given as goal

abbrev pub invariant-loop-look_up : goal.invariant-loop-look_up
invariant-loop-look_up l =
    record {
      known : AreKnown l.names l.terms l.start l.known;
      one_each : length l.known ≡ length l.fn.known;
    }
