use Rattle.std.proofs.Common.{ℕ, Some, slice_get, length, ◌≡◌, ◌+◌, ◌*◌, ◌-◌}
use Rattle.pair_filter.specs.declared.keeping.KeptPairs.{KeptPairs}
use Rattle.pair_filter.specs.Runs.{IsKept, run_of}
use Rattle.pair_filter.proofs.dealing.keep_dealt.Given as goal

abbrev pub invariant-loop-place : goal.invariant-loop-place
invariant-loop-place l = record {
  place : l.place ≡ l.first + length l.kept.items * l.threads;
  kept : (turn : ℕ) (k : KeptPairs) → slice_get l.kept.items turn ≡ Some k → IsKept l.graph l.patterns (run_of l.pairs (l.first + turn * l.threads)) k;
}

abbrev pub decreases-loop-place : goal.decreases-loop-place
decreases-loop-place l = length l.pairs - l.place
