use Rattle.std.proofs.Common.{length, sym, ap, ◌∙◌, subst}
use Rattle.turn_lock.specs.Lists.{Placed}
use Rattle.turn_lock.proofs.Sums.{placed_more, placed_below, begins_at, begins_length}
use Rattle.turn_lock.proofs.handles.TurnLock.enter.Goals as goal

pub returns-clause-turn : goal.returns-clause-turn
returns-clause-turn g c = let me = c.take-ticket.ensures.me in record { turn = (me.0, ap (λ m. m.0.stage) me.2, me.1); holds = ap (λ m. m.1) me.2 }

pub returns-clause-pass : goal.returns-clause-pass
returns-clause-pass g c = let v = c.args.pass.now.seat.me.0 in let es = g.T.Journaled.entries c.take-ticket.result.1 in let me = c.take-ticket.ensures.me.2 in record {
  table = c.take-ticket.ensures.table ∙ c.requires.lock.table;
  part = ap (λ m. m.0.parts) me ∙ c.requires.lock.part;
  alone = ap (λ m. m.0.joined) me ∙ c.requires.lock.alone;
  placed = subst (λ m. Placed 0 m.0.own.mine (length m.0.own.seen)) (sym me) (placed_more 0 v.own.mine (length v.own.seen) (length es) (begins_length es v.own.seen c.take-ticket.ensures.right.begun) c.requires.lock.placed);
}

pub returns-clause-own : goal.returns-clause-own
returns-clause-own g c = let v = c.args.pass.now.seat.me.0 in let es = g.T.Journaled.entries c.take-ticket.result.1 in
    λ y l. begins_at es v.own.seen y c.take-ticket.ensures.right.begun (placed_below 0 v.own.mine (length v.own.seen) y c.requires.lock.placed l)
