use Rattle.std.proofs.Common.{◌-◌, ◌+◌, ◌≡◌, length, sym, subst, arith}
use Rattle.why_pair.specs.Marking.{MarksFrom}
use Rattle.why_pair.proofs.MarkLemmas.{goal_marks}
use Rattle.why_pair.proofs.marking.mark_all.Goals as goal

pub loop-at-init : goal.loop-at-init
loop-at-init c =
    let K = c.args.patterns.now in
    let H = c.args.journal.now in
    let made = subst (MarksFrom K H c.args.goal.now (length H)) (sym c.mark.ensures) (goal_marks K H c.args.goal.now c.args.marks.now c.requires.none c.requires.count c.requires.goal) in
    record { inside = omega arith; count = made.count; marks = made }

pub loop-at-preserved : goal.loop-at-preserved
loop-at-preserved c =
    let before = c.loop-at.invariant in
    let more = c.loop-at-test.true in
    let low = before.inside in
    let same : c.loop-at.at ≡ c.loop-at.at - 1 + 1 = omega arith in
    let made = c.in_ok-mark_needs.ensures c.args.goal.now (subst (λ n. MarksFrom c.args.patterns.now c.args.journal.now c.args.goal.now n c.loop-at.marks) same before.marks) in
    record { inside = omega arith; count = made.count; marks = made }
