use Rattle.std.proofs.Common.{rules, ◌<◌, sym, ap, ◌∙◌, subst}
use Rattle.turn_lock.proofs.Keeps.{looks}
use Rattle.turn_lock.proofs.Calling.{word_again}
use Rattle.turn_lock.proofs.handles.TurnLock.wait_for.Goals as goal

pub load-called-requires : goal.load-called-requires
load-called-requires g c = let same = c.loop.invariant.2 in let t = c.requires.ticket.0 in
    (search rules, search rules, looks _ _ _ _ _ _ t _ _ (ap (λ m. m.0.stage) same ∙ c.requires.ticket.1) (subst (λ m. 0 < m.0.parts) (sym same) (search rules)) (c.serving_word-word.ensures.word ∙ word_again t c.args.ticket c.requires.ticket.2))
