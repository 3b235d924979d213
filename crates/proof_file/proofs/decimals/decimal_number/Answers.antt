use Rattle.std.proofs.Common.{◌∙◌, sym, arith}
use Rattle.proof_file.proofs.DecimalLemmas.{mul_too_large, add_too_large, number_is}
use Rattle.proof_file.proofs.decimals.decimal_number.Goals as goal

pub returns-in_err-checked_mul : goal.returns-in_err-checked_mul
returns-in_err-checked_mul c =
    c.from_residual.ensures ∙ sym (mul_too_large c.args.low c.args.word.now c.loop-byte.byte-index c.loop-byte.value c.loop-byte-test.true c.loop-byte.invariant.is c.in_err-checked_mul.ensures)

pub returns-in_err-value : goal.returns-in_err-value
returns-in_err-value c =
    c.from_residual-in_err-value.ensures
    ∙ sym (add_too_large c.args.low c.args.word.now c.loop-byte.byte-index c.loop-byte.value c.loop-byte-test.true c.loop-byte.invariant.is
    (λ small. c.in_err-value.ensures (omega (arith, small, c.in_ok-checked_mul.ensures, c.from-digit.ensures, c.saturating_sub.ensures))))

pub returns-then-is_decimal : goal.returns-then-is_decimal
returns-then-is_decimal c =
    number_is c.args.low c.args.word.now c.loop-byte.byte-index c.loop-byte.value c.loop-byte-test.false c.loop-byte.invariant.is c.if-low-value.true c.loop-byte.invariant.small c.if-is_decimal.ensures
