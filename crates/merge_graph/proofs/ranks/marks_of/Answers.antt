use Rattle.std.proofs.Common.{[], All, take, subst, arith}
use Rattle.std.proofs.lemmas.List.{take_all}
use Rattle.std.proofs.lemmas.List.Elements.{All-more}
use Rattle.merge_graph.specs.Ranked.{HasMarks}
use Rattle.merge_graph.proofs.RankLemmas.{marks_kept}
use Rattle.merge_graph.proofs.ranks.marks_of.Goals as goal

pub loop-row-preserved : goal.loop-row-preserved
loop-row-preserved c =
    let first = c.mark.ensures in
    let second = c.mark-in-loop-row.ensures in
    let third = c.mark-in-loop-row-2.ensures in
    let new = c.mark-in-loop-row-2.new.marks.items in
    let faces = c.args.faces.now in
    record {
      long = omega (arith, first.length, second.length, third.length, c.loop-row.invariant.long);
      marked = All-more (HasMarks new faces) c.args.rows.now c.loop-row.row-index [] c.loop-row-test.true
          (marks_kept c.loop-row.marks.items new faces (take c.loop-row.row-index c.args.rows.now) (λ n m. third.kept n (second.kept n (first.kept n m))) c.loop-row.invariant.marked)
          (record { subject = third.kept _ (second.kept _ first.marked); predicate = third.kept _ second.marked; object = third.marked });
    }

pub returns-clause-marks : goal.returns-clause-marks
returns-clause-marks c = subst (All (HasMarks c.loop-row.marks.items c.args.faces.now)) (take_all c.loop-row.row-index c.args.rows.now c.loop-row-test.false) c.loop-row.invariant.marked
