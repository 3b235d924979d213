use Rattle.nt_lex.specs.Reading.{Says}
use Rattle.nt_lex.proofs.AnswerLemmas.{only_from}
use Rattle.nt_lex.proofs.ReadingLemmas.{says_once}
use Rattle.nt_lex.proofs.BoundaryLemmas.{object_boundary}
use Rattle.nt_lex.proofs.object.lex_object.Goals as goal

pub returns-clause-only : goal.returns-clause-only
returns-clause-only c = only_from (Says c.args.line.now c.args.at) (says_once c.args.line.now c.args.at) _ c.object_answer.ensures

pub returns-clause-boundary : goal.returns-clause-boundary
returns-clause-boundary c = object_boundary c.args.line.now c.args.at _ c.requires.utf8 c.object_answer.ensures
