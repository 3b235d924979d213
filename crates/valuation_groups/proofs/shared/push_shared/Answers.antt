use Rattle.std.proofs.Common.{ap, sym, ◌∙◌, ◌-◌, arith}
use Rattle.chase_laws.specs.Signature.{SignatureParts}
use Rattle.valuation_groups.specs.Shared.{in_order, grown}
use Rattle.valuation_groups.proofs.SharedLemmas.{listed_ascend, rising_in_order, run_found, part_in_order, kept_more, left_run}
use Rattle.valuation_groups.proofs.shared.push_shared.Goals as goal

pub loop-from-preserved-in_ok-push_rows : goal.loop-from-preserved-in_ok-push_rows
loop-from-preserved-in_ok-push_rows c =
    let rows = c.args.rows.now in
    let order = c.args.order.now in
    let from = c.loop-from.from in
    let end = c.end_of_run-end.result in
    let at = c.loop-from.invariant in
    let ends = c.end_of_run-end.ensures in
    let up = listed_ascend rows order c.requires.shape c.requires.numbers c.requires.rising in
    let run = run_found rows.parts order from end ends.after ends.within up at.border ends.same ends.other in
    let first = ap (λ (p : SignatureParts). p.name) (part_in_order rows.parts order from (omega arith)) ∙ sym c.name.ensures in
    let last = ap (λ (p : SignatureParts). p.name) (part_in_order rows.parts order (end - 1) (omega arith)) ∙ sym c.name-in-loop-from.ensures in
    record {
      within = ends.within;
      kept = kept_more c.args.kept.now c.loop-from.kept c.push_rows.new.kept rows.parts order from end run (λ e. c.if-name.true (sym first ∙ e ∙ last)) at.kept c.in_ok-push_rows.ensures;
      border = run.behind;
    }

pub loop-from-preserved : goal.loop-from-preserved
loop-from-preserved c =
    let rows = c.args.rows.now in
    let order = c.args.order.now in
    let from = c.loop-from.from in
    let end = c.end_of_run-end.result in
    let at = c.loop-from.invariant in
    let ends = c.end_of_run-end.ensures in
    let up = listed_ascend rows order c.requires.shape c.requires.numbers c.requires.rising in
    let run = run_found rows.parts order from end ends.after ends.within up at.border ends.same ends.other in
    let first = ap (λ (p : SignatureParts). p.name) (part_in_order rows.parts order from (omega arith)) ∙ sym c.name.ensures in
    let last = ap (λ (p : SignatureParts). p.name) (part_in_order rows.parts order (end - 1) (omega arith)) ∙ sym c.name-in-loop-from.ensures in
    record {
      within = ends.within;
      kept = at.kept ∙ ap (grown c.args.kept.now) (sym (left_run (in_order rows.parts order) from end run (rising_in_order rows.parts order c.requires.rising) (first ∙ c.if-name.false ∙ sym last)));
      border = run.behind;
    }
