-- One slot more.
use Rattle.std.proofs.Common.{◌≡◌, ℕ, length, subst, ap, sym, ◌∙◌, true≢false, arith}
use Rattle.key_plan.specs.Making.{IsFirstBelow}
use Rattle.key_plan.proofs.Ordered.{first_of_open, first_of_others, is_some}
use Rattle.key_plan.proofs.order.next_slot.Goals as goal
use Rattle.key_plan.proofs.order.next_slot.Goals.{then-is_open, else-is_open}

pub loop-slot-preserved : goal.loop-slot-preserved
loop-slot-preserved c = elim c.if-is_open.branch [
  | then-is_open w ↦
      rw w.next-is (first_of_open c.args.pattern.now c.args.marks.now c.loop-slot.slot c.loop-slot.next w.first_of.result c.loop-slot.invariant (c.is_open.ensures.0 w.if-is_open.true) w.first_of.ensures.one w.first_of.ensures.first w.first_of.ensures.before)
  | else-is_open w ↦ rw w.next-is (first_of_others c.args.pattern.now c.args.marks.now c.loop-slot.slot c.loop-slot.next c.loop-slot.invariant (λ is. true≢false (sym (c.is_open.ensures.1 is) ∙ w.if-is_open.false)))
]

pub unwrap-requires : goal.unwrap-requires
unwrap-requires c =
    let Q = c.args.pattern.now in
    let end : c.loop-slot.slot ≡ length Q.slots = omega (arith, ap length c.slots.ensures.slots) in
    is_some Q c.args.marks.now c.loop-slot.next c.slots.ensures.facts c.requires.begun c.requires.left (subst (λ (n : ℕ). IsFirstBelow Q c.args.marks.now n c.loop-slot.next) end c.loop-slot.invariant)
