-- Each turn is two events, and leaves less to do.
use Rattle.std.proofs.Common.{List, ◌++◌, [], sym, ◌∙◌, ap, refl, subst, append-nil, append_assoc}
use Rattle.chase_laws.specs.Core.{Event, Run, PairAt}
use Rattle.class_book.specs.Classes.{Classes}
use Rattle.chase_core.specs.Setup.{Preparation}
use Rattle.chase_core.specs.Running.{state_in}
use Rattle.chase_core.proofs.Draining.{CoreLaw, landed, less, two_more, finished, one_more}
use Rattle.chase_core.proofs.chase.Chase.drain.Goals as goal

pub loop-ticket-init : goal.loop-ticket-init
loop-ticket-init c = record {
  setup = refl;
  woken_room = refl;
  running = c.book.ensures.running;
  landed = c.requires.landed;
  run = ([], refl);
  grows = ([], sym (append-nil c.args.self.now.book.journal));
}

pub settle_at_once-requires-clause-ends : goal.settle_at_once-requires-clause-ends
settle_at_once-requires-clause-ends c =
    let e = c.in-Some.ensures in
    subst (λ (S : Preparation). PairAt S.task c.in-Some.ticket.pair c.in-Some.ticket.a c.in-Some.ticket.b) (sym e.setup) e.ends

pub loop-ticket-smaller : goal.loop-ticket-smaller
loop-ticket-smaller c =
    let law : CoreLaw = record { event = c.law_core.ensures.event; room = c.law_core.ensures.room } in
    let e = c.in-Some.ensures in
    let s = c.settle_at_once.ensures.settles in
    less law c.loop-ticket.self c.take_unseen.new.self c.in-Some.ticket c.loop-ticket.invariant.running e.setup e.book e.takes c.settle_at_once.new.self s.view s.found c.settle_at_once.result
    c.settle_at_once.ensures.setup c.book-in-Some.ensures.running s.present s.settles

pub loop-ticket-preserved : goal.loop-ticket-preserved
loop-ticket-preserved c =
    let law : CoreLaw = record { event = c.law_core.ensures.event; room = c.law_core.ensures.room } in
    let e = c.in-Some.ensures in
    let v = c.loop-ticket.invariant in
    let old = c.loop-ticket.self in
    let mid = c.take_unseen.new.self in
    let new = c.settle_at_once.new.self in
    let s = c.settle_at_once.ensures.settles in
    let answer = c.settle_at_once.result in
    let t = c.in-Some.ticket in
    let more = c.settle_at_once.ensures.grows in
    record {
      setup = c.settle_at_once.ensures.setup ∙ e.setup ∙ v.setup;
      woken_room = c.settle_at_once.ensures.woken_room ∙ v.woken_room;
      running = c.book-in-Some.ensures.running;
      landed = landed law old mid t v.running e.setup e.book e.takes new s.view s.found answer v.landed s.settles;
      run = subst (λ (S : Preparation). (events : List Event) × Run S.task (state_in c.args.self.now) events (state_in new)) v.setup
          (two_more law old mid t v.running e.setup e.book e.takes new s.view s.found answer s.settles (state_in c.args.self.now)
          (subst (λ (S : Preparation). (events : List Event) × Run S.task (state_in c.args.self.now) events (state_in old)) (sym v.setup) v.run));
      grows = (v.grows.0 ++ more.0, more.1 ∙ ap (λ (B : Classes). B.journal ++ more.0) e.book ∙ ap (λ xs. xs ++ more.0) v.grows.1 ∙ append_assoc c.args.self.now.book.journal v.grows.0 more.0);
    }

pub returns-clause-finished : goal.returns-clause-finished
returns-clause-finished c = finished c.loop-ticket.self c.take_unseen.new.self c.book-2.ensures.running c.loop-ticket.invariant.landed c.in_default.ensures.takes

pub returns-clause-run : goal.returns-clause-run
returns-clause-run c =
    let v = c.loop-ticket.invariant in
    subst (λ (S : Preparation). (events : List Event) × Run S.task (state_in c.args.self.now) events (state_in c.take_unseen.new.self)) v.setup
    (one_more c.loop-ticket.self c.take_unseen.new.self c.book-2.ensures.running v.landed c.in_default.ensures.takes (state_in c.args.self.now)
    (subst (λ (S : Preparation). (events : List Event) × Run S.task (state_in c.args.self.now) events (state_in c.loop-ticket.self)) (sym v.setup) v.run))
