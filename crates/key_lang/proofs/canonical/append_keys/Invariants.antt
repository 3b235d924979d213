use Rattle.std.proofs.Common.{◌≡◌, ◌++◌, take}
use Rattle.std.specs.List.{flat_map}
use Rattle.term_text.specs.Appending.{BeginsWith}
use Rattle.key_lang.specs.CanonicalKeys.{key_text}
use Rattle.key_lang.proofs.canonical.append_keys.Given as goal

abbrev pub invariant-loop-key : goal.invariant-loop-key
invariant-loop-key l = record {
  text : l.buf.items ≡ l.fn.buf.items ++ flat_map (key_text) (take l.key-index l.keys);
  kept : BeginsWith l.fn.buf.items l.buf.items;
}
