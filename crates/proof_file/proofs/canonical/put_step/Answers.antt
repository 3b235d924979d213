use Rattle.std.proofs.Common.{◌≡◌, ◌++◌, codes, ap, ◌∙◌, subst}
use Rattle.std.specs.List.{flat_map}
use Rattle.std.proofs.lemmas.Result.{on_ok_weaker}
use Rattle.proof_file.specs.Steps.{StepNumbers}
use Rattle.proof_file.specs.CanonicalProof.{side_text, support_text, key_line, step_text}
use Rattle.proof_file.proofs.PieceLemmas.{five_pieces}
use Rattle.proof_file.proofs.canonical.put_step.Goals as goal

pub returns-clause-ok : goal.returns-clause-ok
returns-clause-ok c =
    let old = c.args.buf.now.items in
    let step : StepNumbers = record { key = c.step.inside.key; left = c.step.inside.left.items; right = c.step.inside.right.items; supports = c.step.inside.supports.items } in
    let left_put = c.in_ok-put_side.ensures.ok ∙ ap (λ ns. c.put_key.new.buf.items ++ side_text (codes "left") ns) c.deref.ensures.value in
    let right_put = c.in_ok-put_side-2.ensures.ok ∙ ap (λ ns. c.put_side.new.buf.items ++ side_text (codes "right") ns) c.deref-2.ensures.value in
    let supports_put = c.in_ok-put_supports.ensures.ok ∙ ap (λ ss. c.put_side-2.new.buf.items ++ flat_map support_text ss) c.deref-3.ensures.value in
    on_ok_weaker c.put.result (λ last.
    subst (λ (s : StepNumbers). c.put.new.buf.items ≡ old ++ step_text s) c.step.view_is
    (five_pieces old (key_line step.key) (side_text (codes "left") step.left) (side_text (codes "right") step.right) (flat_map support_text step.supports) (codes "done\n") _ _ _ _ _
    c.in_ok-put_key.ensures.ok left_put right_put supports_put last))
    c.put.ensures.ok
