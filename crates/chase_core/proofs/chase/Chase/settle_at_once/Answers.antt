-- A settled pair is an event.
use Rattle.std.proofs.Common.{List, ◌≡◌, ◌++◌, subst}
use Rattle.chase_laws.specs.declared.entry.Entry.{Entry}
use Rattle.chase_core.specs.Running.{Running, running_with}
use Rattle.chase_core.proofs.Holdings.{settled_grows}
use Rattle.chase_core.proofs.Events.{settled_kept}
use Rattle.chase_core.proofs.chase.Chase.settle_at_once.Goals as goal

pub invariant_of-self : goal.invariant_of-self
invariant_of-self c =
    let s = c.settle_present.ensures.settles in
    settled_kept c.law_core.ensures.event c.self.inside.setup.now c.self.inside.book c.settle_present.new.book c.self.inside.table c.settle_present.new.table _ _ c.self.invariant
    c.args.ticket s.view s.found c.settle_present.result s.settles c.settle_present.ensures.room c.settle_present.ensures.aside

pub returns-clause-grows : goal.returns-clause-grows
returns-clause-grows c =
    let S = c.self.inside.setup.now in
    let new = running_with S c.settle_present.new.book c.settle_present.new.table in
    let s = c.settle_present.ensures.settles in
    subst (λ (C : Running). (more : List Entry) × (c.settle_present.new.book.journal ≡ C.book.journal ++ more)) c.self.view_is
    (settled_grows (running_with S c.self.inside.book c.self.inside.table) new c.args.ticket s.view s.found c.settle_present.result s.settles)
