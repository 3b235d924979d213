use Rattle.std.proofs.Common.{◌≡◌, ◌++◌, take}
use Rattle.std.specs.List.{flat_map}
use Rattle.term_text.specs.Appending.{BeginsWith}
use Rattle.proof_file.specs.CanonicalProof.{listed_text}
use Rattle.proof_file.proofs.canonical.put_terms.Given as goal

abbrev pub invariant-loop-place : goal.invariant-loop-place
invariant-loop-place l = record {
  text : l.buf.items ≡ l.fn.buf.items ++ flat_map listed_text (take l.place l.terms);
  kept : BeginsWith l.fn.buf.items l.buf.items;
}
