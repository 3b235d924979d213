use Rattle.std.proofs.lemmas.Result.{on_ok_weaker}
use Rattle.term_text.proofs.ReadBack.{read_again}
use Rattle.term_text.proofs.canonical.put_lent_term.Goals as goal

pub returns-else-is_err-clause-read_back : goal.returns-else-is_err-clause-read_back
returns-else-is_err-clause-read_back c = on_ok_weaker c.append_term-done.result (λ e can. read_again c.args.term.now _ _ e can) c.append_term-done.ensures.ok
