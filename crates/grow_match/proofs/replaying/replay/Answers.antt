-- Each entry is a step from those before it, and joins what they do not.
use Rattle.std.proofs.Common.{List, Some, Contains, length, slice_get, ◌≡◌, ◌<◌, sym, ◌∙◌, ap, subst, arith}
use Rattle.std.proofs.lemmas.Option.{slice_get-get_or}
use Rattle.chase_laws.specs.declared.entry.Entry.{Entry}
use Rattle.chase_laws.specs.Joined.{Joined}
use Rattle.chase_laws.specs.Chase.{IsStep}
use Rattle.chase_core.specs.Setup.{Preparation}
use Rattle.grow_match.proofs.EnteredAgain.{none_flying}
use Rattle.grow_match.proofs.replaying.replay.Goals as goal

pub enter_again-requires-clause-pair : goal.enter_again-requires-clause-pair
enter_again-requires-clause-pair c =
    let e = c.entry-item.result in
    let H = c.args.journal.now in
    let i = c.loop-entry.entry-index in
    let within : i < length H = omega (arith, c.loop-entry-test.true) in
    subst (λ (S : Preparation). Contains S.task.pairs (e.a, e.b)) (sym c.loop-entry.invariant.setup)
    (subst (λ (x : Entry). Contains c.args.chase.now.setup.task.pairs (x.a, x.b)) (sym c.entry-item.is) (c.requires.ends i e within))

pub enter_again-requires-clause-apart : goal.enter_again-requires-clause-apart
enter_again-requires-clause-apart c =
    let e = c.entry-item.result in
    let H = c.args.journal.now in
    let i = c.loop-entry.entry-index in
    let within : i < length H = omega (arith, c.loop-entry-test.true) in
    let at : slice_get H i ≡ Some e = slice_get-get_or H i e within ∙ ap Some (sym c.entry-item.is) in
    λ j. c.requires.lean i e at (subst (λ (J : List Entry). Joined J e.a e.b) c.loop-entry.invariant.journal j)

pub enter_again-requires-clause-step : goal.enter_again-requires-clause-step
enter_again-requires-clause-step c =
    let e = c.entry-item.result in
    let H = c.args.journal.now in
    let i = c.loop-entry.entry-index in
    let within : i < length H = omega (arith, c.loop-entry-test.true) in
    let at : slice_get H i ≡ Some e = slice_get-get_or H i e within ∙ ap Some (sym c.entry-item.is) in
    subst (λ (S : Preparation). IsStep S.task.graph S.task.patterns c.loop-entry.chase.book.journal e) (sym c.loop-entry.invariant.setup)
    (subst (λ (J : List Entry). IsStep c.args.chase.now.setup.task.graph c.args.chase.now.setup.task.patterns J e) (sym c.loop-entry.invariant.journal) (c.requires.derivation i e at))

pub returns-clause-landed : goal.returns-clause-landed
returns-clause-landed c = none_flying c.loop-entry.chase.table.states c.loop-entry.invariant.states
