use Rattle.std.proofs.Common.{◌≡◌, ◌++◌, ◌-◌, ◌<◌, ◌≤◌, false, length, slice_index, take}
use Rattle.std.specs.List.{flat_map}
use Rattle.term_text.specs.Appending.{BeginsWith}
use Rattle.term_text.specs.Escaping.{written_byte, is_raw}
use Rattle.term_text.proofs.escapes.put_escaped.Given as goal

abbrev pub invariant-loop-end : goal.invariant-loop-end
invariant-loop-end l = record {
  in_range : l.end ≤ length l.text;
  stops : l.end < length l.text → is_raw l.inside (slice_index l.text l.end) ≡ false;
  text : l.buf.items ≡ l.fn.buf.items ++ flat_map (written_byte l.inside) (take l.end l.text);
  kept : BeginsWith l.fn.buf.items l.buf.items;
}

abbrev pub decreases-loop-end : goal.decreases-loop-end
decreases-loop-end l = length l.text - l.end
