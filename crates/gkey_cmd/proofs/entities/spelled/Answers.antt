-- The word spells what is read from its start on, where that ends with the word.
use Rattle.std.proofs.Common.{◌∙◌, sym, arith}
use Rattle.nt_reader.proofs.CallerLemmas.{text_term, true_false}
use Rattle.gkey_cmd.proofs.WholeWords.{one_spelled, none_spelled}
use Rattle.gkey_cmd.proofs.entities.spelled.Goals as goal

pub returns-then-not-is_utf8-clause-none : goal.returns-then-not-is_utf8-clause-none
returns-then-not-is_utf8-clause-none c = λ term x. true_false (sym (c.is_utf8.ensures.1 (text_term c.args.word.now term x).utf8) ∙ c.if-not-is_utf8.true)

pub returns-then-end-word-clause-only : goal.returns-then-end-word-clause-only
returns-then-end-word-clause-only c = λ other x. (one_spelled c.args.word.now c.in-Ok.term other c.in-Ok.end c.in-Ok.ensures.so x).0

pub returns-in-Ok-clause-none : goal.returns-in-Ok-clause-none
returns-in-Ok-clause-none c = λ term x. absurd (omega (arith, (one_spelled c.args.word.now c.in-Ok.term term c.in-Ok.end c.in-Ok.ensures.so x).1, c.if-end-word.false))

pub returns-clause-none : goal.returns-clause-none
returns-clause-none c = λ term x. none_spelled c.args.word.now c.in-Err-Fault.field-0-0 (rw c.in-Err-Fault.field-0-is at c.in-Err-Fault.ensures.so) term x
