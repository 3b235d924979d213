use Rattle.std.proofs.Common.{rules, ◌≡◌, ℕ, ◌<◌, length, slice_get, Some, ◌++◌, sym, ap, ◌∙◌, subst, arith}
use Rattle.std.specs.Option.{option_to_list}
use Rattle.turn_lock.specs.Handles.{Gathers, IsPassOf, IsOut}
use Rattle.turn_lock.proofs.Keeps.{joins}
use Rattle.turn_lock.proofs.Rows.{at_front, at_end, all_at}
use Rattle.turn_lock.proofs.Gathering.{first_gathered, more_gathered, all_gathered}
use Rattle.turn_lock.proofs.handles.TurnLock.gather.Goals as goal

pub loop-pass-init : goal.loop-pass-init
loop-pass-init g c = let items = c.pop.ensures.items ∙ ap (λ o. c.pop.new.self.items ++ option_to_list o) c.unwrap-first.ensures in let rest = c.pop.new.self.items in let p = c.unwrap-first.result in
    let it = all_at (λ p. IsPassOf c.args.self.now p × IsOut p) c.args.passes.items c.requires.passes (length rest) p (subst (λ l. slice_get l (length rest) ≡ Some p) (sym items) (at_end rest p)) in (
      it.0.table,
      it.1.holds,
      it.1.idle,
      search rules,
      (λ k q e. all_at (λ p. IsPassOf c.args.self.now p × IsOut p) c.args.passes.items c.requires.passes k q (subst (λ l. slice_get l k ≡ Some q) (sym items) (at_front rest p k q e))),
      subst (λ (n : ℕ). 0 < n) (sym it.0.part) (omega arith),
      first_gathered c.args.passes.items rest p items it.0.alone,
    )

pub join_seat-requires : goal.join_seat-requires
join_seat-requires g c = let inv = c.loop-pass.invariant in let items = c.in-Some.ensures.items in let rest = c.pop-in-loop-pass.new.self.items in let p = c.in-Some.pass in
    let it = inv.4 (length rest) p (subst (λ l. slice_get l (length rest) ≡ Some p) (sym items) (at_end rest p)) in
    (search rules, it.0.table, it.1.holds, search rules, joins _ _ _ _ _ _ _ _ inv.5 (subst (λ (n : ℕ). 0 < n) (sym it.0.part) (omega arith)) it.1.idle)

pub loop-pass-preserved : goal.loop-pass-preserved
loop-pass-preserved g c = let inv = c.loop-pass.invariant in let items = c.in-Some.ensures.items in let rest = c.pop-in-loop-pass.new.self.items in let p = c.in-Some.pass in let joined = c.join_seat.ensures.2 in
    let it = inv.4 (length rest) p (subst (λ l. slice_get l (length rest) ≡ Some p) (sym items) (at_end rest p)) in let parts = ap (λ m. m.0.parts) joined in let one : p.seat.me.0.parts ≡ 1 = it.0.part in (
      search rules,
      search rules,
      search rules,
      omega (arith, parts, one, inv.3, c.in-Some.ensures.len),
      (λ k q e. inv.4 k q (subst (λ l. slice_get l k ≡ Some q) (sym items) (at_front rest p k q e))),
      omega (arith, parts, one),
      subst (λ m. Gathers c.args.passes.items rest m.0) (sym joined) (more_gathered c.args.passes.items c.loop-pass.passes.items rest p c.loop-pass.first.me.0 items it.0.alone inv.6),
    )

pub returns-clause-gathered : goal.returns-clause-gathered
returns-clause-gathered g c = all_gathered c.args.passes.items c.loop-pass.passes.items c.loop-pass.first.me.0 (sym c.loop-pass.passes.ok.0 ∙ c.in_default.ensures.cases.0) c.loop-pass.invariant.6
