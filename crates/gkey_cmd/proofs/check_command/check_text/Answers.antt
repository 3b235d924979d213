-- The checker's verdict, with what the law of accepted proofs says of it.
use Rattle.std.proofs.Common.{◌∙◌, ap}
use Rattle.key_file.specs.KeyFile.{IsKeyFile}
use Rattle.gkey_cmd.specs.Check.{verdict_answer, verdict_text}
use Rattle.gkey_cmd.proofs.check_command.check_text.Goals as goal

pub returns : goal.returns
returns c = λ triples ready.
    let keys = c.args.keys.now in
    let steps = c.args.proof.now in
    let valid = c.keys-keys.ensures in
    let are_keys : IsKeyFile keys = record { few = valid.few; names_differ = valid.names_differ; valid = valid.valid } in
    let is = c.in_ok-verdict.ensures triples ready in
    record {
      answered = c.verdict_answer.ensures ∙ ap verdict_answer is;
      written = c.in_ok-verdict_text.ensures ∙ ap verdict_text is;
      counted = λ count accepted. c.law_proof.ensures.count triples keys steps count accepted;
      same = λ count accepted. c.law_proof.ensures.same triples keys steps count are_keys accepted;
    }
