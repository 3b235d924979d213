use Rattle.std.proofs.Common.{arith}
use Rattle.nt_lex.proofs.AnswerParts.{no_term_so}
use Rattle.nt_lex.proofs.object.object_answer.Goals as goal

pub returns-in_default : goal.returns-in_default
returns-in_default c = no_term_so c.args.line.now c.args.at (λ is. omega (arith, is)) (λ is. omega (arith, is)) (λ is. omega (arith, is))
