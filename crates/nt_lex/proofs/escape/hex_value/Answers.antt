use Rattle.std.proofs.Common.{ℕ, ◌+◌, ◌*◌, ◌^◌, ◌<◌, ◌≤◌, lit<, arith}
use Rattle.std.proofs.Math.Nat.{pow-le-pow_right}
use Rattle.nt_lex.proofs.escape.hex_value.Goals as goal

room : (i v : ℕ) → i < 8 → v < 16 ^ i → v * 16 + 16 ≤ 4294967296
room i v short small =
    let most : 16 ^ i ≤ 268435456 = pow-le-pow_right {n = 16} (lit< tt) {i = i} {j = 7} (omega arith) in
    omega arith

pub overflow_mul-value : goal.overflow_mul-value
overflow_mul-value c =
    let r = room c.digits.byte-index c.digits.value (omega (arith, c.requires, c.digits-test.true)) c.digits.invariant.0 in
    omega arith

pub overflow_add-value : goal.overflow_add-value
overflow_add-value c =
    let r = room c.digits.byte-index c.digits.value (omega (arith, c.requires, c.digits-test.true)) c.digits.invariant.0 in
    omega (arith, c.in_ok-digit.ensures.value)
