-- The texts go behind those that are there, and then the span behind the spans.
use Rattle.std.proofs.Common.{[], ◌∷◌, ◌++◌, length, sym, ap, subst, ◌∙◌}
use Rattle.std.proofs.lemmas.Result.{err_from_is_err_and}
use Rattle.term_list.specs.Packed.{terms_in, term_in, AreWithin}
use Rattle.term_list.proofs.PackedLemmas.{AreWithin-grown, AreWithin-pushed, terms_in-grown, terms_in-pushed}
use Rattle.term_list.proofs.terms.Terms.push.Goals as goal

pub invariant_of-self : goal.invariant_of-self
invariant_of-self c =
    AreWithin-grown c.self.inside.bytes.items c.put_texts.new.bytes.items c.self.inside.spans.items c.in_err-span.ensures.grown c.self.invariant

pub returns-in_err-span-clause-err : goal.returns-in_err-span-clause-err
returns-in_err-span-clause-err c =
    let p = err_from_is_err_and c.from_residual.result c.from_residual.ensures.1 in
    rw p.1 (terms_in-grown c.self.inside.bytes.items c.put_texts.new.bytes.items c.self.inside.spans.items c.in_err-span.ensures.grown c.self.invariant ∙ c.self.view_is)

pub invariant_of-self-in_err-push : goal.invariant_of-self-in_err-push
invariant_of-self-in_err-push c =
    subst (AreWithin (length c.put_texts.new.bytes.items)) (sym c.in_err-push.ensures.items)
    (AreWithin-grown c.self.inside.bytes.items c.put_texts.new.bytes.items c.self.inside.spans.items c.in_ok-span.ensures.grown c.self.invariant)

pub returns-in_err-push-clause-err : goal.returns-in_err-push-clause-err
returns-in_err-push-clause-err c =
    let p = err_from_is_err_and c.from_residual-in_err-push.result c.from_residual-in_err-push.ensures.1 in
    rw p.1
    (ap (terms_in c.put_texts.new.bytes.items) c.in_err-push.ensures.items
    ∙ terms_in-grown c.self.inside.bytes.items c.put_texts.new.bytes.items c.self.inside.spans.items c.in_ok-span.ensures.grown c.self.invariant
    ∙ c.self.view_is)

pub invariant_of-self-2 : goal.invariant_of-self-2
invariant_of-self-2 c =
    let bytes = c.put_texts.new.bytes.items in
    subst (AreWithin (length bytes)) (sym c.in_ok-push.ensures.items)
    (AreWithin-pushed (length bytes) c.self.inside.spans.items c.in_ok-span.span
    (AreWithin-grown c.self.inside.bytes.items bytes c.self.inside.spans.items c.in_ok-span.ensures.grown c.self.invariant) c.in_ok-span.ensures.within)

pub returns-clause-ok : goal.returns-clause-ok
returns-clause-ok c =
    let bytes = c.put_texts.new.bytes.items in
    let spans = c.self.inside.spans.items in
    ap (terms_in bytes) c.in_ok-push.ensures.items ∙ terms_in-pushed bytes spans c.in_ok-span.span
    ∙ ap (λ terms. terms ++ term_in bytes c.in_ok-span.span ∷ [])
    (terms_in-grown c.self.inside.bytes.items bytes spans c.in_ok-span.ensures.grown c.self.invariant ∙ c.self.view_is)
    ∙ ap (λ term. c.args.self.now ++ term ∷ []) c.in_ok-span.ensures.stands
