use Rattle.std.proofs.Common.{Err, sym, ap, ◌∙◌}
use Rattle.nt_lex.specs.Reading.{Says}
use Rattle.key_lang.specs.declared.fault.KeyFault.TheVariants.{UnknownStatement}
use Rattle.key_lang.specs.Answers.{Is, Lexed}
use Rattle.key_lang.specs.Tokens.{begins_constant}
use Rattle.key_lang.proofs.AnswerLemmas.{yes_so, lexed_so}
use Rattle.key_lang.proofs.tokens.read_constant.Goals as goal

pub returns-in-60-clause-so : goal.returns-in-60-clause-so
returns-in-60-clause-so c =
    let line = c.args.line.now in
    yes_so _ (Lexed (Says line c.args.at)) (Is (Err UnknownStatement)) c.lexed.result (ap begins_constant (sym c.byte_at.ensures ∙ c.in-60.is))
    (lexed_so (Says line c.args.at) c.read_iri.result c.lexed.result c.lexed.ensures c.read_iri.ensures.so)

pub returns-in-34-clause-so : goal.returns-in-34-clause-so
returns-in-34-clause-so c =
    let line = c.args.line.now in
    yes_so _ (Lexed (Says line c.args.at)) (Is (Err UnknownStatement)) c.lexed-in-34.result (ap begins_constant (sym c.byte_at.ensures ∙ c.in-34.is))
    (lexed_so (Says line c.args.at) c.read_literal.result c.lexed-in-34.result c.lexed-in-34.ensures c.read_literal.ensures.so)
