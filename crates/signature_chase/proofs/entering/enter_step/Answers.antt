-- The ends of a step are names, and there is room.
use Rattle.std.proofs.Common.{List, ℕ, length, ◌≡◌, ◌<◌, ◌++◌, ◌∷◌, [], sym, ◌∙◌, subst, arith}
use Rattle.chase_laws.specs.declared.entry.Entry.{Entry}
use Rattle.chase_laws.specs.Chase.{IsDerivation, IsLean}
use Rattle.chase_laws.proofs.CallerLemmas.{lean_bound, IsDerivation-push, IsLean-push}
use Rattle.signature_chase.proofs.Named.{step_named}
use Rattle.signature_chase.proofs.entering.enter_step.Goals as goal

pub enter-requires-clause-a : goal.enter-requires-clause-a
enter-requires-clause-a c = rw c.requires.derived.count (step_named c.args.graph.now c.args.patterns.now c.names-names.ensures.graph c.requires.facts c.args.book.now.journal c.args.entry c.requires.step).0

pub enter-requires-clause-b : goal.enter-requires-clause-b
enter-requires-clause-b c = rw c.requires.derived.count (step_named c.args.graph.now c.args.patterns.now c.names-names.ensures.graph c.requires.facts c.args.book.now.journal c.args.entry c.requires.step).1

pub enter-requires-clause-room : goal.enter-requires-clause-room
enter-requires-clause-room c =
    let book = c.args.book.now in
    let named = (step_named c.args.graph.now c.args.patterns.now c.names-names.ensures.graph c.requires.facts book.journal c.args.entry c.requires.step).0 in
    let some : 0 < length book.labels = omega (arith, c.requires.derived.count) in
    omega (arith, lean_bound book.journal c.requires.derived.lean (length book.labels) some c.journal-journal.ensures.ends, c.requires.derived.count, c.requires.derived.room)

pub returns-clause-derived : goal.returns-clause-derived
returns-clause-derived c =
    let G = c.args.graph.now in
    let K = c.args.patterns.now in
    let book = c.args.book.now in
    let e = c.args.entry in
    let d = c.requires.derived in
    record {
      derivation = subst (IsDerivation G K) (sym c.enter.ensures.journal) (IsDerivation-push G K book.journal e d.derivation c.requires.step);
      lean = subst IsLean (sym c.enter.ensures.journal) (IsLean-push book.journal e d.lean c.requires.apart);
      count = c.enter.ensures.count ∙ d.count;
      room = c.enter.ensures.room ∙ d.room;
    }
