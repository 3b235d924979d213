use Rattle.std.proofs.Common.{codes, length, ◌++◌, ap, ◌∙◌}
use Rattle.std.specs.List.{flat_map}
use Rattle.std.proofs.lemmas.Result.{on_ok_weaker}
use Rattle.proof_file.specs.CanonicalProof.{count_text, listed_text, step_text}
use Rattle.proof_file.proofs.PieceLemmas.{five_pieces}
use Rattle.proof_file.proofs.canonical.append_proof.Goals as goal

pub returns-clause-ok : goal.returns-clause-ok
returns-clause-ok c =
    on_ok_weaker c.put_count-2.result (λ last.
    five_pieces _ (codes "gkey-proof 2\n") (count_text (codes "terms") (length c.args.terms.now)) (flat_map listed_text c.args.terms.now) (flat_map step_text c.args.steps.now)
    (count_text (codes "end") (length c.args.steps.now)) _ _ _ _ _ c.in_ok-put.ensures.ok (c.in_ok-put_count.ensures.ok ∙ ap (λ n. c.put.new.buf.items ++ count_text (codes "terms") n) c.len.ensures) c.in_ok-put_terms.ensures.ok c.in_ok-put_steps.ensures.ok last)
    c.put_count-2.ensures.ok
