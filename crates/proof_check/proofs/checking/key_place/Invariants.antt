use Rattle.std.proofs.Common.{ℕ, ◌<◌, ◌≡◌, false, get_or, bytes_eq}
use Rattle.key_file.specs.KeyShape.{KeyShape}
use Rattle.proof_check.proofs.checking.key_place.Given as goal

abbrev pub invariant-loop-place : goal.invariant-loop-place
invariant-loop-place l = (k : ℕ) (d : KeyShape) → k < l.place → bytes_eq (get_or l.keys k d).name l.name ≡ false
