-- The pair is Ready, so it is handed out, and what was found is entered.
use Rattle.std.proofs.Common.{Option, Some, subst}
use Rattle.chase_laws.specs.Core.{PairAt}
use Rattle.paired_search.specs.declared.all_keys.Finding.{Finding}
use Rattle.chase_core.specs.declared.ticket.Ticket.{Ticket}
use Rattle.chase_core.specs.Setup.{Preparation}
use Rattle.chase_core.specs.Running.{state_in}
use Rattle.chase_core.specs.Taking.{TakesHint, pair_of}
use Rattle.std.specs.Prelude.{IfSome}
use Rattle.grow_match.proofs.EnteredAgain.{is_ready, handed_out, leaves_unsearched}
use Rattle.grow_match.proofs.replaying.enter_again.Goals as goal

pub unwrap-ticket-requires : goal.unwrap-ticket-requires
unwrap-ticket-requires c =
    let old = c.args.chase.now in
    let e = c.args.entry in
    let p = c.number_of-pair.result in
    let pair : PairAt old.setup.task p e.a e.b = subst (λ (S : Preparation). PairAt S.task p e.a e.b) c.setup.ensures c.number_of-pair.ensures.pair in
    let ready = is_ready old.setup.task (state_in old) p e.a e.b c.book.ensures.running.sound c.requires.states pair c.requires.apart in
    handed_out old c.take.new.self p e.a e.b c.take.result pair c.requires.apart ready c.take.ensures.takes

pub returns-clause-states : goal.returns-clause-states
returns-clause-states c =
    let old = c.args.chase.now in
    let mid = c.take.new.self in
    let e = c.args.entry in
    let p = c.number_of-pair.result in
    let t = c.unwrap-ticket.result in
    let pair : PairAt old.setup.task p e.a e.b = subst (λ (S : Preparation). PairAt S.task p e.a e.b) c.setup.ensures c.number_of-pair.ensures.pair in
    let takes : TakesHint old mid p (Some t.pair) = subst (λ (r : Option Ticket). TakesHint old mid p (pair_of r)) c.unwrap-ticket.ensures c.take.ensures.takes in
    let ends : PairAt old.setup.task t.pair t.a t.b = subst (λ (r : Option Ticket). IfSome r (λ x. PairAt old.setup.task x.pair x.a x.b)) c.unwrap-ticket.ensures c.take.ensures.ends in
    let found : Finding = record { key = e.key; left = e.left; right = e.right } in
    leaves_unsearched old mid c.settle.new.self p e.a e.b t c.take.new.view.pairs found c.settle.result
    c.requires.states c.requires.apart pair takes ends c.take.ensures.setup c.take.ensures.book c.settle.ensures.already c.settle.ensures.settles
