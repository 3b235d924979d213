use Rattle.std.proofs.Common.{rules, ◌≡◌, ◌<◌, ℕ, Some, sym, ◌∙◌, subst}
use Rattle.turn_lock.proofs.Keeps.{closes, closes_with}
use Rattle.turn_lock.proofs.handles.TurnLock.finish.Goals as goal

pub unwrap-requires : goal.unwrap-requires
unwrap-requires g c = let some_seat = subst (λ (n : ℕ). 0 < n) (sym c.args.self.sized.2) c.requires.seats in
    let t = closes _ _ _ _ _ _ _ _ _ some_seat (c.requires.seat.2 ∙ sym c.args.self.sized.2) c.requires.seat.1 c.close_with-closed.ensures.values.2 c.take-value.ensures.value in let e : c.take-value.result ≡ Some t.0 = t.1 in search rules

pub returns : goal.returns
returns g c = let some_seat = subst (λ (n : ℕ). 0 < n) (sym c.args.self.sized.2) c.requires.seats in
    closes_with _ _ _ 0 _ _ _ c.unwrap.ensures (closes _ _ _ _ _ _ _ _ _ some_seat (c.requires.seat.2 ∙ sym c.args.self.sized.2) c.requires.seat.1 c.close_with-closed.ensures.values.2 c.take-value.ensures.value)
