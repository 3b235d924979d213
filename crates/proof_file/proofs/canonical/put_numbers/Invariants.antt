use Rattle.std.proofs.Common.{◌≡◌, ◌++◌, take}
use Rattle.term_text.specs.Appending.{BeginsWith}
use Rattle.proof_file.specs.CanonicalProof.{numbers_text}
use Rattle.proof_file.proofs.canonical.put_numbers.Given as goal

abbrev pub invariant-loop-number : goal.invariant-loop-number
invariant-loop-number l = record {
  text : l.buf.items ≡ l.fn.buf.items ++ numbers_text (take l.number-index l.numbers);
  kept : BeginsWith l.fn.buf.items l.buf.items;
}
