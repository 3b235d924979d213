use Rattle.std.proofs.Common.{arith}
use Rattle.gk_base.specs.Answers.{IsSo}
use Rattle.nt_lex.specs.Reading.{Says}
use Rattle.nt_lex.proofs.AnswerLemmas.{only_from, owned_so}
use Rattle.nt_lex.proofs.ReadingLemmas.{says_once}
use Rattle.nt_lex.proofs.BoundaryLemmas.{answer_boundary}
use Rattle.nt_lex.proofs.blank.read_blank.Goals as goal

so : (c : goal.After-owned) → IsSo (Says c.args.line.now c.args.at) c.owned.result
so c = owned_so (Says c.args.line.now c.args.at) c.owned.result c.blank_answer.result c.owned.ensures c.blank_answer.ensures.so

pub returns-clause-only : goal.returns-clause-only
returns-clause-only c = only_from (Says c.args.line.now c.args.at) (says_once c.args.line.now c.args.at) _ (so c)

pub returns-clause-boundary : goal.returns-clause-boundary
returns-clause-boundary c =
    answer_boundary c.args.line.now c.args.at _ c.requires.utf8 c.requires.inside (omega (arith, c.requires.opens)) (so c)
