use Rattle.std.proofs.Common.{sym, ◌∙◌, refl}
use Rattle.nt_reader.proofs.CallerLemmas.{true_false}
use Rattle.key_lang.specs.Answers.{yes}
use Rattle.key_lang.specs.Statements.{no_text, text}
use Rattle.key_lang.proofs.StatementLemmas.{text_so}
use Rattle.key_lang.proofs.line.after_line.Goals as goal

pub returns-then-not-is_utf8 : goal.returns-then-not-is_utf8
returns-then-not-is_utf8 c = no_text (λ u. true_false (sym (c.is_utf8.ensures.1 u) ∙ c.if-not-is_utf8.true))

pub returns-then-is_over : goal.returns-then-is_over
returns-then-is_over c =
    text (c.is_utf8.ensures.0 c.if-not-is_utf8.false) (record { next = c.skip_space-at.result; skips = c.skip_space-at.ensures; says = yes (sym c.is_over.ensures ∙ c.if-is_over.true) refl })

pub returns : goal.returns
returns c =
    text_so c.args.state c.args.line.now c.skip_space-at.result c.statement.result (c.is_utf8.ensures.0 c.if-not-is_utf8.false) c.skip_space-at.ensures
    (sym c.is_over.ensures ∙ c.if-is_over.false) c.statement.ensures
