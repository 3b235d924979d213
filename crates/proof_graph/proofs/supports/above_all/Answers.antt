use Rattle.std.proofs.Common.{◌<◌, All, arith, subst}
use Rattle.std.proofs.lemmas.List.{take_all}
use Rattle.chase_laws.specs.declared.entry.Entry.{Entry}
use Rattle.proof_graph.proofs.SupportLemmas.{ends_more}
use Rattle.proof_graph.proofs.supports.above_all.Goals as goal

pub loop-entry-preserved : goal.loop-entry-preserved
loop-entry-preserved c =
    let i = c.loop-entry.invariant in
    let m = c.max-in-loop-entry.ensures in
    let n = c.max-above.ensures in
    let e = c.entry-item.result in
    (omega arith, omega arith, ends_more c.args.journal.now c.loop-entry.entry-index c.loop-entry.above c.max-above.result e c.loop-entry-test.true c.entry-item.is (omega arith) (omega arith) (omega arith) i.2)

pub returns-clause-ends : goal.returns-clause-ends
returns-clause-ends c =
    let t = c.loop-entry-test.false in
    subst (All (λ (f : Entry). (f.a < c.loop-entry.above) × (f.b < c.loop-entry.above))) (take_all c.loop-entry.entry-index c.args.journal.now (omega arith)) c.loop-entry.invariant.2
