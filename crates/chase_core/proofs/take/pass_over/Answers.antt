-- The first pair is passed over where its ends are joined.
use Rattle.std.proofs.Common.{◌++◌, ◌∷◌, [], sym}
use Rattle.chase_core.proofs.Passed.{none_passed, first_in_old, first_in_mid, fewer, one_passed}
use Rattle.chase_core.proofs.take.pass_over.Goals as goal

pub loop-pair-init : goal.loop-pair-init
loop-pair-init c = ([], none_passed c.args.setup.now.task c.args.book.now c.args.table.now)

pub ticket_of-ticket-requires : goal.ticket_of-ticket-requires
ticket_of-ticket-requires c = rw (← c.requires.states) (first_in_old c.args.setup.now.task c.args.book.now c.args.table.now c.loop-pair.table c.loop-pair.invariant.0 c.loop-pair.invariant.1 c.in-Some.ensures.ready c.in-Some.pair (sym c.in-Some.ensures.first))

pub mark-requires-clause-pair : goal.mark-requires-clause-pair
mark-requires-clause-pair c = first_in_mid c.args.setup.now.task c.args.book.now c.args.table.now c.loop-pair.table c.loop-pair.invariant.0 c.loop-pair.invariant.1 c.in-Some.ensures.ready c.in-Some.pair (sym c.in-Some.ensures.first)

pub loop-pair-smaller : goal.loop-pair-smaller
loop-pair-smaller c = rw c.mark.ensures.ready (fewer c.args.setup.now.task c.args.book.now c.args.table.now c.loop-pair.table c.loop-pair.invariant.0 c.loop-pair.invariant.1 c.in-Some.ensures.ready c.in-Some.pair (sym c.in-Some.ensures.first))

pub loop-pair-preserved : goal.loop-pair-preserved
loop-pair-preserved c =
    let t = c.ticket_of-ticket.result in (
      c.loop-pair.invariant.0 ++ c.in-Some.pair ∷ [],
      one_passed c.args.setup.now.task c.args.book.now c.args.table.now c.loop-pair.table c.loop-pair.invariant.0 c.loop-pair.invariant.1 c.in-Some.ensures.ready c.in-Some.pair (sym c.in-Some.ensures.first)
          c.mark.new.self (t.a, t.b, c.ticket_of-ticket.ensures.ends, c.same.ensures.0 c.if-not-same.false) c.mark.ensures.states c.mark.ensures.ready,
    )
