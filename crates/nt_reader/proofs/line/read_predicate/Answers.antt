use Rattle.std.proofs.Common.{sym, ap, ◌∙◌}
use Rattle.std.proofs.lemmas.Bool.{ne_eqb}
use Rattle.gk_base.specs.declared.lex_fault.LexFault.TheVariants.{PredicateExpected}
use Rattle.nt_reader.specs.Line.{begins_predicate, other}
use Rattle.nt_reader.proofs.LineAnswers.{may_so}
use Rattle.nt_reader.proofs.line.read_predicate.Goals as goal

pub returns-then-byte_at-eq60-clause-so : goal.returns-then-byte_at-eq60-clause-so
returns-then-byte_at-eq60-clause-so c =
    may_so begins_predicate PredicateExpected c.args.line.now c.args.at (ap begins_predicate (sym c.byte_at.ensures ∙ c.if-byte_at-eq60.true)) _ c.lex_iri.ensures.so

pub returns-clause-so : goal.returns-clause-so
returns-clause-so c = other (ne_eqb _ _ (λ is. c.if-byte_at-eq60.false (c.byte_at.ensures ∙ is)))
