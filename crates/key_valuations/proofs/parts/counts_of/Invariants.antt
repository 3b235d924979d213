use Rattle.std.proofs.Common.{List, ℕ, ◌≡◌, ◌≤◌, ◌+◌, length}
use Rattle.std.specs.List.{flat_map, range_with_len}
use Rattle.chase_laws.specs.Graph.{NumberedGraph}
use Rattle.key_valuations.proofs.MarkLaws.{value_piece, image_piece}
use Rattle.key_valuations.proofs.parts.counts_of.Given as goal

abbrev pub invariant-loop-s : goal.invariant-loop-s
invariant-loop-s l = record {
  values : (G : NumberedGraph) (v : List ℕ) → length (flat_map (value_piece G l.pattern v) (range_with_len 0 l.s)) ≡ l.values;
  images : (v : List ℕ) → length (flat_map (image_piece l.pattern v) (range_with_len 0 l.s)) ≡ l.images;
  few : l.values + l.images ≤ l.s;
}
