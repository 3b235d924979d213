use Rattle.std.proofs.Common.{◌∷◌, slice_range, sym, ap, ◌∙◌, arith}
use Rattle.proof_file.specs.Words.{words_of}
use Rattle.proof_file.proofs.WordLemmas.{to_the_end, no_words, first_of_words}
use Rattle.proof_file.proofs.words.next_word.Goals as goal

pub returns-then-begin-line-clause-none : goal.returns-then-begin-line-clause-none
returns-then-begin-line-clause-none c = no_words c.args.line.now c.first_word-begin.result.0 c.first_word-begin.ensures.blanks c.if-begin-line.true

pub returns-clause-some : goal.returns-clause-some
returns-clause-some c =
    let line = c.args.line.now in
    let begin = c.first_word-begin.result.0 in
    let end = c.first_word-begin.result.1 in
    let blanks = c.first_word-begin.ensures.blanks in
    let inside = blanks.in_range in
    let more = c.if-begin-line.false in
    first_of_words line begin end blanks c.first_word-begin.ensures.run (omega arith)
    ∙ ap (λ rest. slice_range line begin end ∷ words_of rest) (sym (to_the_end line end))
