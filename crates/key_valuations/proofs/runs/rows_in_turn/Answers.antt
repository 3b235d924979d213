-- Row by row.
use Rattle.std.proofs.Common.{[], length, sym, ◌∙◌, ap, arith}
use Rattle.chase_laws.specs.Signature.{SignatureParts}
use Rattle.valuation_groups.specs.Rows.{part_at, IsOfShape}
use Rattle.key_valuations.specs.Counts.{HasCounts}
use Rattle.key_valuations.proofs.RunLaws.{rows_none, rows_more}
use Rattle.key_valuations.proofs.runs.rows_in_turn.Goals as goal

abbrev none : SignatureParts
none = record { key = 0; name = 0; values = []; images = [] }

pub loop-row-init : goal.loop-row-init
loop-row-init c =
    let rows = c.new-rows.result in
    let counts : HasCounts c.args.search.now.pattern.now rows.value_count rows.image_count = λ G v.
    (let exact = c.counts_of-counts.ensures.exact G v in
    (exact.0 ∙ sym c.new-rows.ensures.value_count, exact.1 ∙ sym c.new-rows.ensures.image_count)) in
    rows_none c.args.search.now c.args.leads.now c.args.from rows c.new-rows.ensures.key counts c.new-rows.ensures.empty

pub leading_marks-marks-requires-clause-as_many : goal.leading_marks-marks-requires-clause-as_many
leading_marks-marks-requires-clause-as_many c =
    let leads = c.args.leads.now in
    let i = c.loop-row.row in
    let shape : IsOfShape leads.key leads.value_count leads.image_count (part_at leads.parts i) = c.len.ensures.shape i none (omega arith) in
    ap length c.values.ensures ∙ shape.values ∙ c.requires.leads.value_count

pub loop-row-preserved : goal.loop-row-preserved
loop-row-preserved c =
    let search = c.args.search.now in
    let leads = c.args.leads.now in
    let marks = c.leading_marks-marks.result in
    let name = c.name-name.result in
    rows_more search leads c.args.from c.loop-row.row c.args.plan.now.place marks name c.loop-row.rows c.add_at.new.rows c.loop-row.invariant c.in_ok-add_at.ensures
    (λ v valuation is. record {
      valuation = valuation;
      marked = c.leading_marks-marks.ensures.marked search.graph.now v (sym (c.values.ensures ∙ ap (λ (p : SignatureParts). p.values) is));
      name = sym (c.name-name.ensures ∙ ap (λ (p : SignatureParts). p.name) is);
    })
