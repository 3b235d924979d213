use Rattle.std.proofs.Common.{◌≡◌, ◌∷◌, [], ◌++◌, codes, sym, ap, ◌∙◌, subst, append_assoc}
use Rattle.std.specs.Fmt.{decimal}
use Rattle.std.proofs.lemmas.Result.{on_ok_weaker}
use Rattle.proof_file.specs.Steps.{SupportShape}
use Rattle.proof_file.specs.CanonicalProof.{numbers_text, support_text}
use Rattle.proof_file.proofs.PieceLemmas.{four_pieces}
use Rattle.proof_file.proofs.canonical.put_support.Goals as goal

pub returns-clause-ok : goal.returns-clause-ok
returns-clause-ok c =
    let old = c.args.buf.now.items in
    let shape : SupportShape = record { slot = c.support.inside.slot; steps = c.support.inside.steps.items } in
    let slot = 0x20 ∷ decimal shape.slot in
    let steps = numbers_text shape.steps in
    let slot_put = c.in_ok-put_number.ensures.ok ∙ ap (λ n. c.put.new.buf.items ++ 0x20 ∷ decimal n) c.from.ensures in
    let steps_put = c.in_ok-put_numbers.ensures.ok ∙ ap (λ ns. c.put_number.new.buf.items ++ numbers_text ns) c.deref.ensures.value in
    on_ok_weaker c.put-2.result (λ last.
    subst (λ (s : SupportShape). c.put-2.new.buf.items ≡ old ++ support_text s) c.support.view_is
    (four_pieces old (codes "by") slot steps (0x0A ∷ []) _ _ _ _ c.in_ok-put.ensures.ok slot_put steps_put last
    ∙ ap (λ l. old ++ (codes "by" ++ l)) (sym (append_assoc slot steps (0x0A ∷ [])))))
    c.put-2.ensures.ok
