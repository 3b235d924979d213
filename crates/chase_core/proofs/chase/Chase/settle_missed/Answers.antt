-- A settled pair is an event.
use Rattle.std.proofs.Common.{List, ◌≡◌, ◌++◌, ◌↔◌, refl, sym, subst}
use Rattle.chase_laws.specs.Joined.{Joined}
use Rattle.chase_laws.specs.Core.{PairAt, IsPresent}
use Rattle.chase_core.specs.declared.ticket.Outcome.TheVariants.{Missed}
use Rattle.chase_core.specs.declared.ticket.Settled.TheVariants as settled
use Rattle.chase_core.proofs.Answering.{answers_already, never_again}
use Rattle.chase_laws.specs.declared.entry.Entry.{Entry}
use Rattle.chase_core.specs.Running.{Running, running_with, state_in}
use Rattle.chase_core.proofs.Holdings.{settled_grows}
use Rattle.chase_core.proofs.Events.{settled_kept}
use Rattle.chase_core.proofs.chase.Chase.settle_missed.Goals as goal

pub invariant_of-self : goal.invariant_of-self
invariant_of-self c =
    let S = c.self.inside.setup.now in
    let book = c.self.inside.book in
    settled_kept c.law_core.ensures.event S book book c.self.inside.table c.settle_missed.new.table _ _ c.self.invariant
    c.args.ticket c.args.view.now.pairs Missed c.settle_missed.result c.settle_missed.ensures.settles refl refl

pub returns-clause-grows : goal.returns-clause-grows
returns-clause-grows c =
    let S = c.self.inside.setup.now in
    let book = c.self.inside.book in
    let new = running_with S book c.settle_missed.new.table in
    subst (λ (C : Running). (more : List Entry) × (book.journal ≡ C.book.journal ++ more)) c.self.view_is
    (settled_grows (running_with S book c.self.inside.table) new c.args.ticket c.args.view.now.pairs Missed c.settle_missed.result c.settle_missed.ensures.settles)

pub returns-clause-already : goal.returns-clause-already
returns-clause-already c =
    let S = c.self.inside.setup.now in
    let book = c.self.inside.book in
    let old = running_with S book c.self.inside.table in
    let new = running_with S book c.settle_missed.new.table in
    subst (λ (C : Running). (c.settle_missed.result ≡ settled.Already) ↔ Joined C.book.journal c.args.ticket.a c.args.ticket.b) c.self.view_is
    (answers_already old new c.args.ticket c.args.view.now.pairs Missed c.settle_missed.result
    (subst (λ (C : Running). PairAt C.setup.task c.args.ticket.pair c.args.ticket.a c.args.ticket.b) (sym c.self.view_is) c.requires.ends) c.settle_missed.ensures.settles)

pub returns-clause-never_again : goal.returns-clause-never_again
returns-clause-never_again c =
    let S = c.self.inside.setup.now in
    let book = c.self.inside.book in
    let old = running_with S book c.self.inside.table in
    let new = running_with S book c.settle_missed.new.table in
    never_again old new c.args.ticket c.args.view.now.pairs Missed c.settle_missed.result
    (subst (λ (C : Running). IsPresent (state_in C) c.args.view.now.pairs) (sym c.self.view_is) c.requires.present) c.settle_missed.ensures.settles
