use Rattle.std.proofs.Common.{ℕ, ◌≤◌, length, get_or, ap, sym, ◌∙◌, arith}
use Rattle.std.specs.List.{filter, range_with_len}
use Rattle.std.proofs.lemmas.List.{length-map}
use Rattle.std.proofs.lemmas.List.FromFn.{length-range_with_len}
use Rattle.std.proofs.lemmas.List.Sums.{length-filter, count_by-le-length}
use Rattle.std.proofs.lemmas.Result.{IfOk-weaker}
use Rattle.term_text.specs.CanonicalText.{term_text, texts_of}
use Rattle.term_text.specs.Labels.{is_shared_in}
use Rattle.term_text.specs.Members.{member_at}
use Rattle.term_text.specs.MemberTexts.{joined_members}
use Rattle.term_text.proofs.ReportLaw.{report_is}
use Rattle.term_text.proofs.class_report.report.Goals as goal

pub returns : goal.returns
returns g c =
    let listed = c.in_ok-members.ensures ∙ (ap joined_members c.deref.ensures.value ∙ c.in_ok-parts.ensures) in
    IfOk-weaker c.report_of_members.result _ _
    (λ bytes printed. report_is (texts_of c.args.names.now) c.args.labels.now c.in_ok-counts.counts (c.requires ∙ sym (length-map c.args.names.now term_text)) c.in_ok-counts.ensures c.in_ok-members.members.items listed bytes printed)
    (rw c.deref_mut.ensures.value at c.report_of_members.ensures)

-- there are no more members than names
pub report_of_members-requires-clause-few : goal.report_of_members-requires-clause-few
report_of_members-requires-clause-few g c κs within =
    let labels = c.args.labels.now in
    let counts = c.in_ok-counts.counts in
    let test = λ (n : ℕ). is_shared_in counts (get_or labels n 0) in
    let numbers = range_with_len 0 (length labels) in
    let fewer : length (filter test numbers) ≤ length labels =
    omega (arith, length-filter test numbers, count_by-le-length test numbers, length-range_with_len 0 (length labels)) in
    let as_many = length-map (filter test numbers) (member_at (texts_of c.args.names.now) labels) in
    let members = ap length (c.in_ok-members.ensures ∙ (ap joined_members c.deref.ensures.value ∙ c.in_ok-parts.ensures)) in
    omega (arith, as_many, fewer, members, c.deref_mut.ensures.len, c.in_ok-members.members.ok.0, c.requires, c.len.ensures.small)
