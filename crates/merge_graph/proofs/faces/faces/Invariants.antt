use Rattle.std.proofs.Common.{◌≡◌, ◌<◌, ℕ, length, get_or, unwrap_or}
use Rattle.merge_graph.specs.Faces.{kept_face}
use Rattle.merge_graph.proofs.faces.faces.Given as goal

abbrev pub invariant-loop-place : goal.invariant-loop-place
invariant-loop-place l =
    (length l.faces.items ≡ l.place) × ((n : ℕ) → n < l.place → get_or l.faces.items n 0 ≡ unwrap_or (kept_face l.table (get_or l.labels n 0)) n)
