use Rattle.std.proofs.Common.{◌≡◌, ℕ, ◌+◌, ◌-◌, ◌≤◌, ◌++◌, length, sym, ap, ◌∙◌, subst, arith}
use Rattle.turn_lock.specs.Lists.{Placed, places}
use Rattle.turn_lock.proofs.Sums.{placed_append, begins_length}
use Rattle.turn_lock.proofs.handles.TurnLock.leave.Goals as goal

pub returns-clause-out : goal.returns-clause-out
returns-clause-out g c = let me = c.put.ensures.me in record { idle = ap (λ m. m.0.stage) me; holds = ap (λ m. m.1) me }

pub returns-clause-pass : goal.returns-clause-pass
returns-clause-pass g c = let v = c.args.pass.now.seat.me.0 in let es = g.T.Journaled.entries c.args.turn.value in let me = c.put.ensures.me in let n : ℕ = length v.own.seen in let m : ℕ = length es in
    let le : n ≤ m = begins_length es v.own.seen c.requires.value.1 in let whole : n + (m - n) ≡ m = omega arith in record {
      table = c.put.ensures.table ∙ c.requires.lock.table;
      part = ap (λ m. m.0.parts) me ∙ c.requires.lock.part;
      alone = ap (λ m. m.0.joined) me ∙ c.requires.lock.alone;
      placed = subst (λ m. Placed 0 m.0.own.mine (length m.0.own.seen)) (sym me) (subst (λ (k : ℕ). Placed 0 (v.own.mine ++ places n (m - n)) k) whole (placed_append 0 v.own.mine n (m - n) (omega arith) c.requires.lock.placed));
    }
