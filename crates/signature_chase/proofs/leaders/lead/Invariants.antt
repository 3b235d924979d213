use Rattle.std.proofs.Common.{◌≡◌, length}
use Rattle.signature_chase.proofs.Leading.{IsLeading}
use Rattle.signature_chase.proofs.leaders.lead.Given as goal

abbrev pub invariant-loop-k : goal.invariant-loop-k
invariant-loop-k l = record {
  count : length l.leaders.items ≡ length l.fn.leaders.items;
  leading : IsLeading l.keyed l.leaders.items l.k l.head;
}
