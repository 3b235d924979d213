use Rattle.std.proofs.Common.{◌≡◌, ◌++◌, take}
use Rattle.std.specs.List.{flat_map}
use Rattle.term_text.specs.Appending.{BeginsWith}
use Rattle.proof_file.specs.CanonicalProof.{support_text}
use Rattle.proof_file.proofs.canonical.put_supports.Given as goal

abbrev pub invariant-loop-support : goal.invariant-loop-support
invariant-loop-support l = record {
  text : l.buf.items ≡ l.fn.buf.items ++ flat_map support_text (take l.support-index l.supports);
  kept : BeginsWith l.fn.buf.items l.buf.items;
}
