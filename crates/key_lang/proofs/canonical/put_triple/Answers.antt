use Rattle.std.proofs.Common.{◌∷◌, []}
use Rattle.std.proofs.lemmas.Result.{on_ok_weaker}
use Rattle.term_text.specs.CanonicalText.{term_text}
use Rattle.term_text.proofs.CallerLemmas.{pieces_joined}
use Rattle.key_lang.specs.CanonicalKeys.{node_at}
use Rattle.key_lang.proofs.canonical.put_triple.Goals as goal

pub returns-clause-ok : goal.returns-clause-ok
returns-clause-ok c =
    let slots = c.args.slots.now in
    let edge = c.args.edge.now in
    on_ok_weaker c.put-3.result
    (λ last. pieces_joined _ (node_at slots edge.from) (term_text edge.pred) (node_at slots edge.to) (0x0A ∷ []) _ _ _ _ _ _ c.in_ok-put_node_at.ensures.ok c.in_ok-put.ensures.ok
    c.in_ok-put_term.ensures.ok c.in_ok-put-2.ensures.ok c.in_ok-put_node_at-2.ensures.ok last)
    c.put-3.ensures.ok
