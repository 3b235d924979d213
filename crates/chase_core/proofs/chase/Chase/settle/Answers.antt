-- A settled pair is an event.
use Rattle.std.proofs.Common.{List, ◌≡◌, ◌++◌, ◌↔◌, refl, sym, subst}
use Rattle.chase_laws.specs.declared.entry.Entry.{Entry}
use Rattle.chase_laws.specs.Joined.{Joined}
use Rattle.chase_laws.specs.Core.{PairAt}
use Rattle.chase_core.specs.declared.ticket.Outcome.TheVariants.{Found, Missed}
use Rattle.chase_core.specs.declared.ticket.Settled.TheVariants as settled
use Rattle.chase_core.specs.Running.{Running, running_with}
use Rattle.chase_core.proofs.Answering.{answers_already}
use Rattle.chase_core.proofs.Holdings.{settled_grows}
use Rattle.chase_core.proofs.Events.{settled_kept}
use Rattle.chase_core.proofs.chase.Chase.settle.Goals as goal

pub invariant_of-self : goal.invariant_of-self
invariant_of-self c =
    let book = c.self.inside.book in
    settled_kept c.law_core.ensures.event c.self.inside.setup.now book book c.self.inside.table c.settle_compared.new.table _ _ c.self.invariant
    c.args.ticket c.args.view.now.pairs Missed c.settle_compared.result c.settle_compared.ensures.settles refl refl

pub invariant_of-self-in-Found : goal.invariant_of-self-in-Found
invariant_of-self-in-Found c =
    let view = c.args.view.now.pairs in
    settled_kept c.law_core.ensures.event c.self.inside.setup.now c.self.inside.book c.settle_found.new.book c.self.inside.table c.settle_found.new.table _ _ c.self.invariant
    c.args.ticket view (Found c.in-Found.finding) c.settle_found.result (c.settle_found.ensures.settles view) c.settle_found.ensures.room c.settle_found.ensures.aside

pub returns-in-Missed-clause-grows : goal.returns-in-Missed-clause-grows
returns-in-Missed-clause-grows c =
    let S = c.self.inside.setup.now in
    let book = c.self.inside.book in
    subst (λ (C : Running). (more : List Entry) × (book.journal ≡ C.book.journal ++ more)) c.self.view_is
    (settled_grows (running_with S book c.self.inside.table) (running_with S book c.settle_compared.new.table) c.args.ticket c.args.view.now.pairs Missed c.settle_compared.result c.settle_compared.ensures.settles)

pub returns-in-Found-clause-grows : goal.returns-in-Found-clause-grows
returns-in-Found-clause-grows c =
    let S = c.self.inside.setup.now in
    let new = c.settle_found.new.book in
    let view = c.args.view.now.pairs in
    subst (λ (C : Running). (more : List Entry) × (new.journal ≡ C.book.journal ++ more)) c.self.view_is
    (settled_grows (running_with S c.self.inside.book c.self.inside.table) (running_with S new c.settle_found.new.table) c.args.ticket view (Found c.in-Found.finding) c.settle_found.result (c.settle_found.ensures.settles view))

pub returns-in-Missed-clause-already : goal.returns-in-Missed-clause-already
returns-in-Missed-clause-already c =
    let S = c.self.inside.setup.now in
    let book = c.self.inside.book in
    let t = c.args.ticket in
    subst (λ (C : Running). (c.settle_compared.result ≡ settled.Already) ↔ Joined C.book.journal t.a t.b) c.self.view_is
    (answers_already (running_with S book c.self.inside.table) (running_with S book c.settle_compared.new.table) t c.args.view.now.pairs Missed c.settle_compared.result
    (subst (λ (C : Running). PairAt C.setup.task t.pair t.a t.b) (sym c.self.view_is) c.requires.ends) c.settle_compared.ensures.settles)

pub returns-in-Found-clause-already : goal.returns-in-Found-clause-already
returns-in-Found-clause-already c =
    let S = c.self.inside.setup.now in
    let t = c.args.ticket in
    let view = c.args.view.now.pairs in
    subst (λ (C : Running). (c.settle_found.result ≡ settled.Already) ↔ Joined C.book.journal t.a t.b) c.self.view_is
    (answers_already (running_with S c.self.inside.book c.self.inside.table) (running_with S c.settle_found.new.book c.settle_found.new.table) t view (Found c.in-Found.finding) c.settle_found.result
    (subst (λ (C : Running). PairAt C.setup.task t.pair t.a t.b) (sym c.self.view_is) c.requires.ends) (c.settle_found.ensures.settles view))
