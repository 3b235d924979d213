use Rattle.std.proofs.Common.{◌≡◌, ◌++◌, take}
use Rattle.std.specs.List.{flat_map}
use Rattle.term_text.specs.Appending.{BeginsWith}
use Rattle.key_lang.specs.CanonicalKeys.{triple_line}
use Rattle.key_lang.proofs.canonical.put_triples.Given as goal

abbrev pub invariant-loop-edge : goal.invariant-loop-edge
invariant-loop-edge l = record {
  text : l.buf.items ≡ l.fn.buf.items ++ flat_map (triple_line l.slots) (take l.edge-index l.edges);
  kept : BeginsWith l.fn.buf.items l.buf.items;
}
