use Rattle.std.proofs.Common.{inl, inr, arith}
use Rattle.valuation_groups.proofs.OrderLemmas.{next_border}
use Rattle.valuation_groups.proofs.GroupLemmas.{listed_more, apart_more, known_more}
use Rattle.valuation_groups.proofs.groups.ValuationGroups.add.Goals as goal

pub loop-from-preserved : goal.loop-from-preserved
loop-from-preserved c =
    let rows = c.args.rows.now in
    let groups = c.loop-from.self in
    let before = c.args.self.now in
    let from = c.loop-from.from in
    let end = c.end_of_run-end.result in
    let at = c.loop-from.invariant in
    let run = c.end_of_run-end.ensures in
    rw c.in_ok-add_group.ensures (record {
      within = run.within;
      listed = listed_more groups rows _ from end c.len.ensures.shape (omega arith) run.within run.same at.listed;
      apart = apart_more groups before rows from end run.after run.within c.requires.fresh at.known at.border at.apart;
      known = known_more groups before rows from end run.after at.known;
      border = next_border rows.parts from end c.requires.sorted run.after at.border run.same run.other;
    })

pub returns-clause-keys : goal.returns-clause-keys
returns-clause-keys c = λ g has. elim (c.loop-from.invariant.known g has) [ inl first ↦ inl first | inr x ↦ inr x.0 ]
