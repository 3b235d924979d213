use Rattle.std.proofs.Common.{◌≡◌}
use Rattle.std.specs.List.{flat_map, range_with_len}
use Rattle.key_valuations.proofs.MarkLaws.{value_piece, image_piece}
use Rattle.key_valuations.proofs.parts.add_row.Given as goal

abbrev pub invariant-loop-s : goal.invariant-loop-s
invariant-loop-s l = record {
  values : l.lists.values.items ≡ flat_map (value_piece l.graph l.pattern l.valuation) (range_with_len 0 l.s);
  images : l.lists.images.items ≡ flat_map (image_piece l.pattern l.valuation) (range_with_len 0 l.s);
}
