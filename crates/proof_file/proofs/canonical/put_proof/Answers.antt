use Rattle.std.proofs.Common.{◌++◌, ap, ◌∙◌}
use Rattle.std.proofs.lemmas.Result.{on_ok_weaker}
use Rattle.proof_file.specs.CanonicalProof.{numbered_text, proof_text}
use Rattle.proof_file.proofs.InNumbers.{text_again}
use Rattle.proof_file.proofs.canonical.put_proof.Goals as goal

pub returns-else-is_err-clause-ok : goal.returns-else-is_err-clause-ok
returns-else-is_err-clause-ok c =
    let old = c.args.buf.now.items in
    on_ok_weaker c.append_proof-done.result (λ put.
    put ∙ ap (λ l. old ++ l) (ap (numbered_text c.proof.inside.terms) c.deref.ensures.value
    ∙ text_again c.proof.inside.terms c.proof.inside.steps.items c.proof.invariant ∙ ap proof_text c.proof.view_is))
    c.append_proof-done.ensures.ok
