use Rattle.std.proofs.Common.{◌≡◌, ◌++◌, ◌+◌, take, map}
use Rattle.term_text.specs.Appending.{BeginsWith}
use Rattle.proof_file.specs.CanonicalProof.{numbers_text}
use Rattle.proof_file.proofs.canonical.put_places.Given as goal

abbrev pub invariant-loop-place : goal.invariant-loop-place
invariant-loop-place l = record {
  text : l.buf.items ≡ l.fn.buf.items ++ numbers_text (map (λ p. p + 1) (take l.place-index l.places));
  kept : BeginsWith l.fn.buf.items l.buf.items;
}
