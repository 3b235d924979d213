use Rattle.std.proofs.Common.{sym, ◌∙◌, bytes_eq, slice_range, true≢false, eqb-true, eq-eqb}
use Rattle.std.proofs.lemmas.Bool.{not-true, not-false}
use Rattle.std.proofs.lemmas.Result.{err_from_is_err_and}
use Rattle.std.specs.Vec.{vec_len}
use Rattle.proof_file.specs.ProofText as text
use Rattle.proof_file.proofs.SideLemmas.{side_read, no_side_read, side_stops}
use Rattle.proof_file.proofs.sides.spelled_side.Goals as goal

pub returns-then-ne-clause-told : goal.returns-then-ne-clause-told
returns-then-ne-clause-told c = λ terms.
    text.other_word c.first_word-begin.ensures (not-true (bytes_eq (slice_range c.args.line.now c.first_word-begin.result.0 c.first_word-begin.result.1) c.args.word.now) (sym c.if-ne.ensures))

pub returns-in_err-numbers-clause-told : goal.returns-in_err-numbers-clause-told
returns-in_err-numbers-clause-told c =
    let begin = c.first_word-begin.result.0 in
    let end = c.first_word-begin.result.1 in
    let line = c.args.line.now in
    let word = c.args.word.now in
    let p = err_from_is_err_and c.from_residual.result c.from_residual.ensures.1 in
    rw (p.1, p.2)
    (λ terms. side_stops c.read_terms.new.terms terms word line begin end c.in_err-numbers.field-0.0 c.first_word-begin.ensures (not-false (bytes_eq (slice_range line begin end) word) (sym c.if-ne.ensures)) c.in_err-numbers.ensures.told)

pub returns-then-is_empty-clause-told : goal.returns-then-is_empty-clause-told
returns-then-is_empty-clause-told c =
    let begin = c.first_word-begin.result.0 in
    let end = c.first_word-begin.result.1 in
    let line = c.args.line.now in
    let word = c.args.word.now in
    λ terms. no_side_read c.read_terms.new.terms terms word line begin end c.in_ok-numbers.numbers.items c.first_word-begin.ensures (not-false (bytes_eq (slice_range line begin end) word) (sym c.if-ne.ensures))
    (c.in_ok-numbers.ensures.told.0) (sym c.in_ok-numbers.numbers.ok.0 ∙ eqb-true (vec_len c.in_ok-numbers.numbers) 0 (sym c.if-is_empty.ensures))

pub returns-clause-told : goal.returns-clause-told
returns-clause-told c =
    let begin = c.first_word-begin.result.0 in
    let end = c.first_word-begin.result.1 in
    let line = c.args.line.now in
    let word = c.args.word.now in
    λ terms. (
      side_read c.read_terms.new.terms terms word line begin end c.in_ok-numbers.numbers.items c.first_word-begin.ensures (not-false (bytes_eq (slice_range line begin end) word) (sym c.if-ne.ensures))
          c.in_ok-numbers.ensures.told.0 (λ none. true≢false (sym (eq-eqb (vec_len c.in_ok-numbers.numbers) 0 (c.in_ok-numbers.numbers.ok.0 ∙ none)) ∙ sym c.if-is_empty.ensures)),
      c.in_ok-numbers.ensures.told.1,
    )
