use Rattle.std.proofs.Common.{◌≡◌, ap, sym, ◌∙◌, arith}
use Rattle.std.specs.List.{slice_get}
use Rattle.demo_graph.proofs.SpelledLemmas.{none_by_nothing, none_by_a_low_byte, text_by_digits, none_by_an_error, one_number, spelled}
use Rattle.demo_graph.proofs.decimal_word.number_of.Goals as goal

pub returns-in_default : goal.returns-in_default
returns-in_default c = λ n least most e. none_by_nothing c.args.word.now n (omega arith) (sym c.in_default.ensures.value) e

pub returns-then-first-lt-LEAST_FIRST_DIGIT : goal.returns-then-first-lt-LEAST_FIRST_DIGIT
returns-then-first-lt-LEAST_FIRST_DIGIT c = λ n least most e.
    none_by_a_low_byte c.args.word.now n c.in-Some.first.now least (omega arith) (sym c.in-Some.ensures.value)
    (omega (arith, c.if-first-lt-LEAST_FIRST_DIGIT.true)) e

pub returns-in_default-from_utf8 : goal.returns-in_default-from_utf8
returns-in_default-from_utf8 c = λ n least most e.
    c.in_default-from_utf8.ensures.cases.0 (text_by_digits c.args.word.now n (omega arith) e)

pub returns-in_default-parse : goal.returns-in_default-parse
returns-in_default-parse c = λ n least most e.
    none_by_an_error c.in-Ok.text.now c.in_default-parse.field-0 n (omega arith) c.in_default-parse.ensures.value.0 (c.in-Ok.ensures.cases.0 ∙ e)

pub returns-then-number-most : goal.returns-then-number-most
returns-then-number-most c =
    let is = c.in-Ok.ensures.cases.0 in
    let found = spelled c.in-Ok.text.now c.in-Some.first.now c.in-Ok-parse.number c.in-Ok-parse.ensures.value.0
    (ap (λ w. slice_get w 0) is ∙ sym c.in-Some.ensures.value) c.if-first-lt-LEAST_FIRST_DIGIT.false in
    (found.0, c.if-number-most.true, sym is ∙ found.1)

pub returns-else-number-most : goal.returns-else-number-most
returns-else-number-most c = λ n least most e.
    let is : c.in-Ok-parse.number ≡ n = one_number c.in-Ok.text.now c.in-Ok-parse.number n (omega arith) c.in-Ok-parse.ensures.value.0 (c.in-Ok.ensures.cases.0 ∙ e) in
    omega arith
