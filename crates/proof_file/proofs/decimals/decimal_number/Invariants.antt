use Rattle.std.proofs.Common.{◌≡◌, ◌<◌, ◌^◌, take}
use Rattle.proof_file.specs.Words.{value_of}
use Rattle.proof_file.proofs.decimals.decimal_number.Given as goal

abbrev pub invariant-loop-byte : goal.invariant-loop-byte
invariant-loop-byte l = record {
  is : l.value ≡ value_of (take l.byte-index l.word);
  small : l.value < 2 ^ 32;
}
