use Rattle.std.proofs.Common.{ℕ, ◌<◌, slice_index}
use Rattle.why_tests.proofs.supported.are_named.Given as goal

abbrev pub invariant-loop-at : goal.invariant-loop-at
invariant-loop-at l = (k : ℕ) → k < l.at → slice_index l.places k < l.count
