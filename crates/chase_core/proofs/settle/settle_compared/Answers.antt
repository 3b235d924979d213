-- A pair whose ends are not joined is missed, or to be searched again.
use Rattle.std.proofs.Common.{rules}
use Rattle.chase_laws.specs.Joined.{Joined}
use Rattle.chase_core.proofs.Answering.{settles_missed, settles_reopened}
use Rattle.chase_core.proofs.settle.settle_compared.Goals as goal

pub returns-in-Some-clause-settles : goal.returns-in-Some-clause-settles
returns-in-Some-clause-settles c =
    let t = c.args.ticket in
    let book = c.args.book.now in
    let apart : ¬ (Joined book.journal t.a t.b) = search rules in
    settles_reopened c.args.setup.now book c.args.table.now c.make_ready.new.self t c.args.view.now.pairs c.overtaken.ensures.ascends c.requires.ends apart c.in-Some.node c.in-Some.seen c.in-Some.now c.in-Some.ensures.found
    c.make_ready.ensures.states (record { kept = c.make_ready.ensures.kept; last = c.make_ready.ensures.last })

pub returns-in-None-clause-settles : goal.returns-in-None-clause-settles
returns-in-None-clause-settles c =
    let t = c.args.ticket in
    let book = c.args.book.now in
    let apart : ¬ (Joined book.journal t.a t.b) = search rules in
    settles_missed c.args.setup.now book c.args.table.now c.mark-in-None.new.self t c.args.view.now.pairs c.overtaken.ensures.ascends c.requires.ends apart c.requires.view c.requires.outcome c.in-None.ensures.none
    c.mark-in-None.ensures.states c.mark-in-None.ensures.ready
