use Rattle.std.proofs.Common.{sym, subst}
use Rattle.gk_base.specs.Answers.{IsSo}
use Rattle.key_lang.specs.Statements.{InsideSays}
use Rattle.key_lang.proofs.StatementLemmas.{reopened_so}
use Rattle.key_lang.proofs.line.inside_statement.Goals as goal

pub returns-in-Entity : goal.returns-in-Entity
returns-in-Entity c =
    subst (λ word. IsSo (InsideSays c.args.keys c.args.key word c.args.line.now c.args.at) c.reopened.result) (sym c.in-Entity.is)
    (reopened_so c.args.keys _ c.typed_statement.result c.reopened.result c.reopened.ensures c.typed_statement.ensures)

pub returns-in-Any : goal.returns-in-Any
returns-in-Any c =
    subst (λ word. IsSo (InsideSays c.args.keys c.args.key word c.args.line.now c.args.at) c.reopened-in-Any.result) (sym c.in-Any.is)
    (reopened_so c.args.keys _ c.typed_statement-in-Any.result c.reopened-in-Any.result c.reopened-in-Any.ensures c.typed_statement-in-Any.ensures)

pub returns-in-Value : goal.returns-in-Value
returns-in-Value c =
    subst (λ word. IsSo (InsideSays c.args.keys c.args.key word c.args.line.now c.args.at) c.reopened-in-Value.result) (sym c.in-Value.is)
    (reopened_so c.args.keys _ c.value_statement.result c.reopened-in-Value.result c.reopened-in-Value.ensures c.value_statement.ensures)

pub returns-in-Folded : goal.returns-in-Folded
returns-in-Folded c =
    subst (λ word. IsSo (InsideSays c.args.keys c.args.key word c.args.line.now c.args.at) c.reopened-in-Folded.result) (sym c.in-Folded.is)
    (reopened_so c.args.keys _ c.value_statement-in-Folded.result c.reopened-in-Folded.result c.reopened-in-Folded.ensures c.value_statement-in-Folded.ensures)
