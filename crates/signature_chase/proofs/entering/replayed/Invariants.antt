use Rattle.std.proofs.Common.{◌≡◌, take}
use Rattle.signature_chase.specs.Setting.{IsDerived}
use Rattle.signature_chase.proofs.entering.replayed.Given as goal

abbrev pub invariant-loop-entry : goal.invariant-loop-entry
invariant-loop-entry l = record {
  journal : l.book.journal ≡ take l.entry-index l.given;
  derived : IsDerived l.graph l.patterns l.book;
}
