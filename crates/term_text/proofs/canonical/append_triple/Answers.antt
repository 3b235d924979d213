use Rattle.std.proofs.Common.{◌∷◌, []}
use Rattle.std.proofs.lemmas.Result.{on_ok_weaker}
use Rattle.term_text.specs.CanonicalText.{term_text}
use Rattle.term_text.proofs.AppendLemmas.{begins_then, pieces_joined}
use Rattle.term_text.proofs.canonical.append_triple.Goals as goal

pub returns-clause-ok : goal.returns-clause-ok
returns-clause-ok c =
    on_ok_weaker c.put-3.result
    (λ last. pieces_joined _ (term_text c.args.subject.now) (term_text c.args.predicate.now) (term_text c.args.object.now) (0x20 ∷ 0x2E ∷ 0x0A ∷ []) _ _ _ _ _ _
    c.in_ok-append_term.ensures.ok c.in_ok-put.ensures.ok c.in_ok-append_term-2.ensures.ok c.in_ok-put-2.ensures.ok c.in_ok-append_term-3.ensures.ok last)
    c.put-3.ensures.ok

pub returns-clause-kept : goal.returns-clause-kept
returns-clause-kept c =
    begins_then c.append_term.ensures.kept (begins_then c.put.ensures.kept (begins_then c.append_term-2.ensures.kept (begins_then c.put-2.ensures.kept (begins_then c.append_term-3.ensures.kept c.put-3.ensures.kept))))
