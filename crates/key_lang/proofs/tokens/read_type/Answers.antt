use Rattle.std.proofs.Common.{Err, sym, ap, ◌∙◌}
use Rattle.nt_lex.specs.Reading.{Says}
use Rattle.key_lang.specs.declared.fault.KeyFault.TheVariants.{BadIri}
use Rattle.key_lang.specs.Answers.{Is, Lexed}
use Rattle.key_lang.specs.Tokens.{begins_iri, IriSays}
use Rattle.key_lang.proofs.AnswerLemmas.{skip_so, yes_so, lexed_so}
use Rattle.key_lang.proofs.tokens.read_type.Goals as goal

pub returns-then-byte_at-eq60-clause-so : goal.returns-then-byte_at-eq60-clause-so
returns-then-byte_at-eq60-clause-so c =
    let line = c.args.line.now in
    let at = c.skip_space-begin.result in
    skip_so line c.args.at at (IriSays line) c.lexed.result c.skip_space-begin.ensures
    (yes_so _ (Lexed (Says line at)) (Is (Err BadIri)) c.lexed.result (ap begins_iri (sym c.byte_at.ensures ∙ c.if-byte_at-eq60.true))
    (lexed_so (Says line at) c.read_iri.result c.lexed.result c.lexed.ensures c.read_iri.ensures.so))
