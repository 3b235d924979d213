use Rattle.std.proofs.Common.{◌≡◌, length}
use Rattle.why_pair.specs.Relinked.{relinked_numbers, with_each}
use Rattle.why_pair.proofs.relinking.relink.Given as goal

abbrev pub invariant-loop-step : goal.invariant-loop-step
invariant-loop-step l = record {
  at : l.at ≡ length l.yielded;
  made : l.made.items ≡ with_each (relinked_numbers l.ways l.kept) l.entries l.yielded;
}
