use Rattle.std.proofs.Common.{◌≡◌, ◌<◌, ◌^◌, bytes_eq}
use Rattle.std.specs.Fmt.{decimal}
use Rattle.proof_file.proofs.decimals.is_decimal.Given as goal

abbrev pub invariant-loop-left : goal.invariant-loop-left
invariant-loop-left l = record {
  is : bytes_eq (decimal l.number) l.word ≡ bytes_eq (decimal l.left) l.rest;
  small : l.left < 2 ^ 32;
}

abbrev pub decreases-loop-left : goal.decreases-loop-left
decreases-loop-left l = l.left
