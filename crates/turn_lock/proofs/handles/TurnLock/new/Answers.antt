use Rattle.std.proofs.Common.{rules, ap, ◌∙◌, subst}
use Rattle.turn_lock.specs.Handles.{IsNew}
use Rattle.turn_lock.proofs.Keeps.{opens}
use Rattle.turn_lock.proofs.handles.TurnLock.new.Goals as goal

pub new-requires : goal.new-requires
new-requires g c = let x = c.args.value in let n = c.count.result in
    rw (c.of.ensures, c.from.ensures, c.push_reserved.ensures.items, c.in-Ok-with_capacity.ensures.items) (opens g.T.Journaled.base g.T.Journaled.entries x c.args.seats n (search rules) c.count.ensures (search rules))

pub returns-in-Ok-new-clause-new : goal.returns-in-Ok-new-clause-new
returns-in-Ok-new-clause-new g c = λ k p e. subst (λ x. IsNew g.T.Journaled.base g.T.Journaled.entries x k p) (ap (λ a. a.value.value) c.in-Ok-new.ensures.ok.5 ∙ c.of.ensures) (c.hand_out.ensures.new k p e)
