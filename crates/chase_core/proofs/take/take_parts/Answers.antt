-- The pair is handed out.
use Rattle.std.proofs.Common.{◌<◌, sym, subst}
use Rattle.std.specs.Option.{ForSome}
use Rattle.chase_core.proofs.Taken.{takes, takes_not, next_within, as_long}
use Rattle.chase_core.proofs.take.take_parts.Goals as goal

pub ticket_of-ticket-requires : goal.ticket_of-ticket-requires
ticket_of-ticket-requires c =
    let p = c.in_ok-pair.pair in
    subst (λ n. p < n) c.requires.states (next_within c.args.setup.now c.args.book.now c.args.table.now c.next_pair.new.table c.listed.ensures c.args.hint p c.in_ok-pair.ensures)

pub mark-requires-clause-pair : goal.mark-requires-clause-pair
mark-requires-clause-pair c =
    let S = c.args.setup.now in
    let book = c.args.book.now in
    let old = c.args.table.now in
    let mid = c.next_pair.new.table in
    let p = c.in_ok-pair.pair in
    rw (as_long S book old mid c.listed.ensures c.args.hint c.next_pair.result c.next_pair.ensures) (next_within S book old mid c.listed.ensures c.args.hint p c.in_ok-pair.ensures)

pub returns-in_err-pair-clause-takes : goal.returns-in_err-pair-clause-takes
returns-in_err-pair-clause-takes c =
    rw c.from_residual.ensures (takes_not c.args.setup.now c.args.book.now c.args.table.now c.next_pair.new.table c.listed.ensures c.args.hint c.in_err-pair.ensures
    (subst (λ n. ForSome c.args.hint (λ q. q < n)) (sym c.requires.states) c.requires.hint))

pub returns-clause-takes : goal.returns-clause-takes
returns-clause-takes c =
    rw c.ticket_of-ticket.ensures.pair (takes c.args.setup.now c.args.book.now c.args.table.now c.next_pair.new.table c.listed.ensures c.args.hint c.in_ok-pair.pair c.mark.new.self c.in_ok-pair.ensures
    (subst (λ n. ForSome c.args.hint (λ q. q < n)) (sym c.requires.states) c.requires.hint) c.mark.ensures.states c.mark.ensures.ready)
