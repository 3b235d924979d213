use Rattle.std.proofs.Common.{sym, ap, ◌∙◌}
use Rattle.std.proofs.lemmas.Bool.{or_from, ne_eqb}
use Rattle.gk_base.specs.declared.lex_fault.LexFault.TheVariants.{SubjectExpected}
use Rattle.nt_reader.specs.Line.{begins_subject, other}
use Rattle.nt_reader.proofs.LineAnswers.{may_so}
use Rattle.nt_reader.proofs.line.read_subject.Goals as goal

pub returns-then-first-eq60-clause-so : goal.returns-then-first-eq60-clause-so
returns-then-first-eq60-clause-so c =
    may_so begins_subject SubjectExpected c.args.line.now c.args.at (ap begins_subject (sym c.byte_at-first.ensures ∙ c.if-first-eq60.true)) _ c.lex_iri.ensures.so

pub returns-then-first-eq95-clause-so : goal.returns-then-first-eq95-clause-so
returns-then-first-eq95-clause-so c =
    may_so begins_subject SubjectExpected c.args.line.now c.args.at (ap begins_subject (sym c.byte_at-first.ensures ∙ c.if-first-eq95.true)) _ c.lex_blank.ensures.so

pub returns-clause-so : goal.returns-clause-so
returns-clause-so c =
    other (or_from _ _ (ne_eqb _ _ (λ is. c.if-first-eq60.false (c.byte_at-first.ensures ∙ is))) (ne_eqb _ _ (λ is. c.if-first-eq95.false (c.byte_at-first.ensures ∙ is))))
