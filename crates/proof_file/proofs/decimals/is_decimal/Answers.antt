use Rattle.std.proofs.Common.{◌+◌, ◌&&◌, ◌==◌, ◌∙◌, sym, ap, length, get_or, arith}
use Rattle.std.proofs.lemmas.Bool.{and_left, ne_eqb}
use Rattle.proof_file.proofs.DecimalLemmas.{digit_taken, digit_differs, digits_missing, last_digit}
use Rattle.proof_file.proofs.decimals.is_decimal.Goals as goal

pub loop-left-preserved : goal.loop-left-preserved
loop-left-preserved c =
    let small = c.loop-left.invariant.small in
    record {
      is = c.loop-left.invariant.is
          ∙ digit_taken c.loop-left.left c.loop-left.rest.now c.in-Some.front.now c.in-Some.last.now c.loop-left-test.true small c.in-Some.ensures.cases.0 (sym c.from.ensures ∙ c.if-from-left.false);
      small = omega arith;
    }

pub returns-then-from-left : goal.returns-then-from-left
returns-then-from-left c =
    sym
    (c.loop-left.invariant.is
    ∙ digit_differs c.loop-left.left c.loop-left.rest.now c.in-Some.front.now c.in-Some.last.now c.loop-left-test.true c.loop-left.invariant.small c.in-Some.ensures.cases.0
    (λ e. c.if-from-left.true (c.from.ensures ∙ e)))

pub returns-in_default : goal.returns-in_default
returns-in_default c = sym (c.loop-left.invariant.is ∙ digits_missing c.loop-left.left c.loop-left.rest.now c.loop-left.invariant.small c.in_default.ensures.cases)

pub returns-then-rest-eq1 : goal.returns-then-rest-eq1
returns-then-rest-eq1 c =
    let left = c.loop-left.left in
    let rest = c.loop-left.rest.now in
    let small = c.loop-left-test.false in
    sym
    (c.loop-left.invariant.is ∙ last_digit left rest (omega arith) ∙ ap (λ n. n == 1 && get_or rest 0 0 == 48 + left) c.if-rest-eq1.true
    ∙ ap (λ d. d == 48 + left) (sym c.from-then-rest-eq1.ensures))

pub returns-else-rest-eq1 : goal.returns-else-rest-eq1
returns-else-rest-eq1 c =
    let left = c.loop-left.left in
    let rest = c.loop-left.rest.now in
    let small = c.loop-left-test.false in
    let other = ne_eqb (length rest) 1 c.if-rest-eq1.false in
    other ∙ sym (c.loop-left.invariant.is ∙ last_digit left rest (omega arith) ∙ and_left (length rest == 1) (get_or rest 0 0 == 48 + left) other)
