use Rattle.std.proofs.Common.{ℕ, ◌≡◌, ◌<◌, Some, slice_get, slice_index}
use Rattle.chase_core.proofs.settle.overtaken.Given as goal

abbrev pub invariant-loop-place : goal.invariant-loop-place
invariant-loop-place l = (k n m : ℕ) → k < l.place → slice_get l.view.pairs k ≡ Some (n, m) → m ≡ slice_index l.book.labels n
