use Rattle.std.proofs.Common.{refl, rules, ◌≡◌, ℕ, ◌+◌, ◌-◌, ◌<◌, [], sym, ap, ◌∙◌, subst, arith}
use Rattle.turn_lock.specs.declared.handles.Pass.{Pass}
use Rattle.turn_lock.specs.Turns.{fresh, first_of, second_of}
use Rattle.turn_lock.specs.Handles.{IsPassOf, IsOut, IsNew, opened}
use Rattle.turn_lock.proofs.Keeps.{splits}
use Rattle.turn_lock.proofs.Gathering.{fresh_is_out, fresh_is_new}
use Rattle.turn_lock.proofs.Rows.{each_pushed, at_all}
use Rattle.turn_lock.proofs.handles.TurnLock.hand_out.Goals as goal

pub split_seat-next-requires : goal.split_seat-next-requires
split_seat-next-requires g c = let me = c.loop-number.invariant.1 in let more : 0 < c.args.self.now.seats - c.loop-number.number = omega arith in
    (search rules, search rules, splits _ _ _ _ _ _ (ap (λ m. m.0.stage) me) (subst (λ (n : ℕ). 0 < n) (sym (ap (λ m. m.0.parts) me)) more))

pub loop-number-preserved : goal.loop-number-preserved
loop-number-preserved g c = let inv = c.loop-number.invariant in let split = c.split_seat-next.ensures in let b = g.T.Journaled.base (opened c.args.self.now) in let es = g.T.Journaled.entries (opened c.args.self.now) in
    let left = split.2 ∙ ap (λ m. (first_of m.0, m.1)) inv.1 in let less : c.args.self.now.seats - c.loop-number.number - 1 ≡ c.args.self.now.seats - (c.loop-number.number + 1) = omega arith in
    let y : Pass g.row.T.Denot g.row.T-Base.Denot g.row.T-Item.Denot = record { number = c.loop-number.number; ticket = 0; seat = c.split_seat-next.new.seat } in let n = sym c.loop-number.passes.ok.0 ∙ inv.2 in (
      split.3 ∙ inv.0,
      split.4 ∙ ap (λ m. (second_of m.0, [])) inv.1 ∙ ap (λ (n : ℕ). (fresh n b es, [])) less,
      search rules,
      search rules,
      rw c.push_reserved.ensures.items (each_pushed (λ _ p. IsPassOf c.args.self.now p × IsOut p) c.loop-number.passes.items y c.loop-number.number n inv.4 (fresh_is_out c.args.self.now y b es (split.0 ∙ inv.0) left)),
      rw c.push_reserved.ensures.items (each_pushed (λ k p. IsNew g.T.Journaled.base g.T.Journaled.entries (opened c.args.self.now) k p) c.loop-number.passes.items y c.loop-number.number n inv.5 (fresh_is_new g.T.Journaled.base g.T.Journaled.entries (opened c.args.self.now) c.loop-number.number y refl left)),
    )

pub returns-clause-passes : goal.returns-clause-passes
returns-clause-passes g c = let inv = c.loop-number.invariant in let b = g.T.Journaled.base (opened c.args.self.now) in let es = g.T.Journaled.entries (opened c.args.self.now) in
    let one : c.args.self.now.seats - c.loop-number.number ≡ 1 = omega arith in let left = inv.1 ∙ ap (λ (n : ℕ). (fresh n b es, [])) one in
    let y : Pass g.row.T.Denot g.row.T-Base.Denot g.row.T-Item.Denot = record { number = c.args.self.now.seats - 1; ticket = 0; seat = c.loop-number.seat } in
    at_all (λ p. IsPassOf c.args.self.now p × IsOut p) c.push_reserved-2.new.self.items (rw c.push_reserved-2.ensures.items (each_pushed (λ _ p. IsPassOf c.args.self.now p × IsOut p) c.loop-number.passes.items y c.loop-number.number (sym c.loop-number.passes.ok.0 ∙ inv.2) inv.4 (fresh_is_out c.args.self.now y b es inv.0 left)))

pub returns-clause-new : goal.returns-clause-new
returns-clause-new g c = let inv = c.loop-number.invariant in let b = g.T.Journaled.base (opened c.args.self.now) in let es = g.T.Journaled.entries (opened c.args.self.now) in
    let one : c.args.self.now.seats - c.loop-number.number ≡ 1 = omega arith in let left = inv.1 ∙ ap (λ (n : ℕ). (fresh n b es, [])) one in let last : c.args.self.now.seats - 1 ≡ c.loop-number.number = omega arith in
    let y : Pass g.row.T.Denot g.row.T-Base.Denot g.row.T-Item.Denot = record { number = c.args.self.now.seats - 1; ticket = 0; seat = c.loop-number.seat } in
    rw c.push_reserved-2.ensures.items (each_pushed (λ k p. IsNew g.T.Journaled.base g.T.Journaled.entries (opened c.args.self.now) k p) c.loop-number.passes.items y c.loop-number.number (sym c.loop-number.passes.ok.0 ∙ inv.2) inv.5 (fresh_is_new g.T.Journaled.base g.T.Journaled.entries (opened c.args.self.now) c.loop-number.number y last left))
