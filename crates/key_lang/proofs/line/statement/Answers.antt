use Rattle.std.proofs.Common.{sym, ap, ◌∙◌, subst}
use Rattle.gk_base.specs.Answers.{IsSo}
use Rattle.key_lang.specs.Statements.{begins_triple, LinkSays, StatementSays}
use Rattle.key_lang.proofs.AnswerLemmas.{yes_so}
use Rattle.key_lang.proofs.StatementLemmas.{reopened_so}
use Rattle.key_lang.proofs.line.statement.Goals as goal

pub returns-in-Some : goal.returns-in-Some
returns-in-Some c =
    let line = c.args.line.now in
    let at = c.args.at in
    let keys = c.state.inside.keys in
    subst (λ s. IsSo (StatementSays s line at) c.reopened.result) c.state.view_is
    (yes_so _ _ _ c.reopened.result (ap begins_triple (sym c.byte_at.ensures) ∙ sym c.begins_triple.ensures ∙ c.if-begins_triple.true)
    (subst (λ current. IsSo (LinkSays keys current line at) c.reopened.result) (sym c.in-Some.is)
    (reopened_so keys _ c.triple_statement.result c.reopened.result c.reopened.ensures c.triple_statement.ensures)))
