use Rattle.std.proofs.Common.{◌≡◌, ◌+◌, List, length}
use Rattle.gk_base.specs.declared.term.Term.{Term}
use Rattle.term_table.specs.Known.{AreKnown}
use Rattle.term_table.proofs.ahead.Ahead.look_back.Given as goal

abbrev pub invariant-loop-at : goal.invariant-loop-at
invariant-loop-at l =
    record {
      one_each : l.at ≡ l.fn.start + length l.known.items;
      known : (names : List Term) → AreKnown names l.fn.terms l.fn.start l.fn.known.items → AreKnown names l.fn.terms l.fn.start l.known.items;
    }
