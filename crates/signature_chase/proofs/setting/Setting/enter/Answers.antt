-- The names of a step are names of the graph, and what gets another label has its owners wait.
use Rattle.std.proofs.Common.{List, [], ◌∷◌, ◌++◌, ℕ, true, Contains, length, drop, ◌≡◌, ◌<◌, sym, ◌∙◌, ap, subst, arith}
use Rattle.std.specs.Prelude.{slice_index}
use Rattle.std.proofs.lemmas.List.{map_push}
use Rattle.list_pool.specs.Pool.{list_at}
use Rattle.chase_laws.specs.declared.entry.Entry.{Entry}
use Rattle.chase_laws.specs.Joined.{joined, links, Joined}
use Rattle.chase_laws.proofs.CallerLemmas.{joined_last}
use Rattle.class_book.specs.Classes.{going, staying}
use Rattle.valuation_groups.specs.Groups.{group_at, row_in}
use Rattle.signature_chase.specs.Setting.{Work, IsWork, HasRowAt, IsNamedRow, AreOwnersOf}
use Rattle.signature_chase.proofs.Named.{step_named}
use Rattle.signature_chase.proofs.Advancing.{advance_entered}
use Rattle.signature_chase.proofs.setting.Setting.enter.Goals as goal

pub wake-requires-clause-a : goal.wake-requires-clause-a
wake-requires-clause-a c =
    let W = c.args.self.now in
    let work : IsWork W = subst IsWork c.self.view_is c.self.invariant in
    rw c.requires.derived.count (step_named W.graph W.patterns work.numbered work.facts c.args.book.now.journal c.args.entry c.requires.step).0

pub wake-requires-clause-b : goal.wake-requires-clause-b
wake-requires-clause-b c =
    let W = c.args.self.now in
    let work : IsWork W = subst IsWork c.self.view_is c.self.invariant in
    rw c.requires.derived.count (step_named W.graph W.patterns work.numbered work.facts c.args.book.now.journal c.args.entry c.requires.step).1

pub wake-requires-clause-groups : goal.wake-requires-clause-groups
wake-requires-clause-groups c = λ m g h.
    let W = c.args.self.now in
    let work : IsWork W = subst IsWork c.self.view_is c.self.invariant in
    rw c.requires.count (work.owned.only m g (subst (λ (V : Work). Contains (list_at V.owners m) g) c.self.view_is h))

pub returns-clause-advances : goal.returns-clause-advances
returns-clause-advances c =
    let W = c.args.self.now in
    let work : IsWork W = subst IsWork c.self.view_is c.self.invariant in
    let old = c.args.book.now in
    let e = c.args.entry in
    let count = c.requires.derived.count in
    let x = slice_index old.labels e.a in
    let y = slice_index old.labels e.b in
    advance_entered W.groups old c.enter_step.new.book c.args.queue.now.list c.wake.new.queue.list W.owners (going old.labels x y) (staying old.labels x y) e
    (subst (λ n. AreOwnersOf W.groups n W.owners) (sym count) work.owned)
    (λ g i h. subst (λ n. IsNamedRow n (row_in (group_at W.groups g) i)) (sym count) ((work.grouped g h.0).named i h.1))
    c.enter_step.ensures.labels c.enter_step.ensures.journal c.wake.ensures.kept
    (λ m g in_m same h. c.wake.ensures.woken m g in_m same (subst (λ (V : Work). Contains (list_at V.owners m) g) (sym c.self.view_is) h))

pub returns-clause-joined : goal.returns-clause-joined
returns-clause-joined c =
    let W = c.args.self.now in
    let work : IsWork W = subst IsWork c.self.view_is c.self.invariant in
    let e = c.args.entry in
    let H = c.args.book.now.journal in
    let new = c.enter_step.new.book in
    let named = step_named W.graph W.patterns work.numbered work.facts H e c.requires.step in
    let count : length new.labels ≡ length W.graph.literal = c.enter_step.ensures.derived.count ∙ ap (λ (V : Work). length V.graph.literal) c.self.view_is in
    let met : Joined new.journal e.a e.b = subst (λ (J : List Entry). Joined J e.a e.b) (sym c.enter_step.ensures.journal)
    (subst (λ ps. joined ps e.a e.b ≡ true) (sym (map_push (λ (f : Entry). (f.a, f.b)) H e)) (joined_last (links H) e.a e.b)) in
    (c.enter_step.ensures.labelled.classes e.a e.b (rw count named.0) (rw count named.1)).1 met
