-- Each entry is a step from those before it, and joins what they do not.
use Rattle.std.proofs.Common.{List, [], ◌∷◌, ◌++◌, Some, length, slice_get, get_or, take, ◌≡◌, ◌<◌, ◌+◌, sym, ◌∙◌, ap, subst, arith}
use Rattle.std.proofs.lemmas.List.{take_more, take_all}
use Rattle.std.proofs.lemmas.Option.{slice_get-get_or}
use Rattle.chase_laws.specs.declared.entry.Entry.{Entry}
use Rattle.chase_laws.specs.Joined.{Joined}
use Rattle.chase_laws.specs.Chase.{IsStep, IsDerivation, IsLean}
use Rattle.chase_laws.proofs.CallerLemmas.{none_derived}
use Rattle.signature_chase.proofs.entering.replayed.Goals as goal

pub loop-entry-init : goal.loop-entry-init
loop-entry-init c =
    let G = c.args.graph.now in
    let K = c.args.patterns.now in
    let e = c.in_ok-book.ensures in
    let none = none_derived G K in
    record {
      journal = e.empty;
      derived = record {
        derivation = subst (IsDerivation G K) (sym e.empty) none.0;
        lean = subst IsLean (sym e.empty) none.1;
        count = e.count ∙ c.names-names.ensures.names;
        room = e.room ∙ c.names-names.ensures.names;
      };
    }

pub enter_step-requires-clause-step : goal.enter_step-requires-clause-step
enter_step-requires-clause-step c =
    let e = c.entry-item.result in
    let H = c.args.given.now in
    let i = c.loop-entry.entry-index in
    let within : i < length H = omega (arith, c.loop-entry-test.true) in
    let at : slice_get H i ≡ Some e = slice_get-get_or H i e within ∙ ap Some (sym c.entry-item.is) in
    subst (λ (J : List Entry). IsStep c.args.graph.now c.args.patterns.now J e) (sym c.loop-entry.invariant.journal) (c.requires.derivation i e at)

pub enter_step-requires-clause-apart : goal.enter_step-requires-clause-apart
enter_step-requires-clause-apart c =
    let e = c.entry-item.result in
    let H = c.args.given.now in
    let i = c.loop-entry.entry-index in
    let within : i < length H = omega (arith, c.loop-entry-test.true) in
    let at : slice_get H i ≡ Some e = slice_get-get_or H i e within ∙ ap Some (sym c.entry-item.is) in
    λ j. c.requires.lean i e at (subst (λ (J : List Entry). Joined J e.a e.b) c.loop-entry.invariant.journal j)

pub loop-entry-preserved : goal.loop-entry-preserved
loop-entry-preserved c =
    let e = c.entry-item.result in
    let H = c.args.given.now in
    let i = c.loop-entry.entry-index in
    let within : i < length H = omega (arith, c.loop-entry-test.true) in
    record {
      journal = c.enter_step.ensures.journal ∙ ap (λ (J : List Entry). J ++ e ∷ []) c.loop-entry.invariant.journal
          ∙ ap (λ (x : Entry). take i H ++ x ∷ []) c.entry-item.is ∙ sym (take_more H i e within);
      derived = c.enter_step.ensures.derived;
    }

pub returns-clause-journal : goal.returns-clause-journal
returns-clause-journal c = c.loop-entry.invariant.journal ∙ take_all c.loop-entry.entry-index c.args.given.now (omega (arith, c.loop-entry-test.false))
