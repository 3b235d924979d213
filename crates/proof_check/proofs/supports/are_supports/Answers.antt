use Rattle.std.proofs.Common.{◌+◌, ◌==◌, nat_lt, bytes_eq, map, slice_index, length, drop, arith, sym, ap, ◌∙◌}
use Rattle.std.proofs.lemmas.Bool.{and_parts, ltb-true}
use Rattle.chase_laws.specs.declared.pattern.Slot.TheVariants.{Entity}
use Rattle.proof_file.specs.Steps.{SupportShape}
use Rattle.proof_file.specs.Tells.{entities_from}
use Rattle.proof_check.proofs.StepLemmas.{slot_skipped, slot_supported, slot_unsupported}
use Rattle.proof_check.proofs.supports.are_supports.Goals as goal
use Rattle.proof_check.proofs.supports.are_supports.Goals.{then-is_entity+else-not-is_support_of, else-is_entity}

pub returns-then-not-is_support_of : goal.returns-then-not-is_support_of
returns-then-not-is_support_of c =
    let slots = c.args.slots.now in
    let supports = c.args.supports.now in
    slot_unsupported supports c.loop-at.next slots c.loop-at.at (Entity 0) c.loop-at-test.true (sym c.is_entity.ensures ∙ c.if-is_entity.true) (sym c.is_support_of.ensures ∙ c.if-not-is_support_of.true)
    ∙ sym c.loop-at.invariant.1

pub loop-at-preserved : goal.loop-at-preserved
loop-at-preserved c =
    let slots = c.args.slots.now in
    let supports = c.args.supports.now in
    let less = c.loop-at.invariant.0 in
    elim c.if-is_entity.branch [
      | then-is_entity+else-not-is_support_of w ↦
          (let is = sym w.is_support_of.ensures ∙ w.if-not-is_support_of.false in
          let parts = and_parts (nat_lt c.loop-at.next (length supports)) (slice_index (map (λ (s : SupportShape). s.slot) supports) c.loop-at.next == c.loop-at.at) is in
          let more = ltb-true c.loop-at.next (length supports) parts.0 in
          let n = w.next-is in (
            omega arith,
            c.loop-at.invariant.1 ∙ slot_supported supports c.loop-at.next slots c.loop-at.at (Entity 0) c.loop-at-test.true (sym c.is_entity.ensures ∙ w.if-is_entity.true) is
                ∙ ap (λ m. bytes_eq (map (λ (s : SupportShape). s.slot) (drop m supports)) (entities_from (c.loop-at.at + 1) (drop (c.loop-at.at + 1) slots))) (sym n),
          ))
      | else-is_entity w ↦
          (let n = w.next-is in (
            omega arith,
            c.loop-at.invariant.1
                ∙ ap (bytes_eq (map (λ (s : SupportShape). s.slot) (drop c.loop-at.next supports))) (slot_skipped slots c.loop-at.at (Entity 0) c.loop-at-test.true (sym c.is_entity.ensures ∙ w.if-is_entity.false))
                ∙ ap (λ m. bytes_eq (map (λ (s : SupportShape). s.slot) (drop m supports)) (entities_from (c.loop-at.at + 1) (drop (c.loop-at.at + 1) slots))) (sym n),
          ))
    ]
