use Rattle.std.proofs.Common.{rules, length, sym, ap, ◌∙◌, subst, arith}
use Rattle.turn_lock.specs.Lists.{Placed}
use Rattle.turn_lock.proofs.Keeps.{glances}
use Rattle.turn_lock.proofs.handles.TurnLock.glance.Goals as goal

pub load-requires : goal.load-requires
load-requires g c = (c.requires.table, search rules, glances _ _ _ _ _ _ _ (let p = c.requires.part in omega arith))

pub returns-clause-pass : goal.returns-clause-pass
returns-clause-pass g c = let me = c.load.ensures.2.0 in record {
  table = c.load.ensures.0 ∙ c.requires.table;
  part = ap (λ v. v.parts) me ∙ c.requires.part;
  alone = ap (λ v. v.joined) me ∙ c.requires.alone;
  placed = subst (λ v. Placed 0 v.own.mine (length v.own.seen)) (sym me) c.requires.placed;
}

pub returns-clause-turn : goal.returns-clause-turn
returns-clause-turn g c = let me = c.load.ensures.2 in (
  (λ h. record { idle = ap (λ v. v.stage) me.0 ∙ h.idle; holds = me.1 ∙ h.holds }),
  (λ h. record { turn = (h.turn.0, ap (λ v. v.stage) me.0 ∙ h.turn.1, h.turn.2); holds = me.1 ∙ h.holds }),
)
