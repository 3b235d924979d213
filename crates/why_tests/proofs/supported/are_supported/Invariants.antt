use Rattle.std.proofs.Common.{ℕ, ◌<◌, ◌≡◌, Some, length, slice_get, take}
use Rattle.chase_laws.specs.declared.entry.Entry.{Entry}
use Rattle.proof_file.specs.Tells.{IsSupported}
use Rattle.why_tests.proofs.supported.are_supported.Given as goal

abbrev pub invariant-loop-at : goal.invariant-loop-at
invariant-loop-at l = (i : ℕ) (e : Entry) → i < l.at → slice_get l.journal i ≡ Some e → IsSupported (length l.names) l.patterns (take i l.journal) e
