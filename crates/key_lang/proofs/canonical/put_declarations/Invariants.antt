use Rattle.std.proofs.Common.{◌≡◌, ◌++◌, take}
use Rattle.std.specs.List.{flat_map}
use Rattle.term_text.specs.Appending.{BeginsWith}
use Rattle.key_lang.specs.CanonicalKeys.{declaration_text}
use Rattle.key_lang.proofs.canonical.put_declarations.Given as goal

abbrev pub invariant-loop-slot : goal.invariant-loop-slot
invariant-loop-slot l = record {
  text : l.buf.items ≡ l.fn.buf.items ++ flat_map (declaration_text) (take l.slot-index l.slots);
  kept : BeginsWith l.fn.buf.items l.buf.items;
}
