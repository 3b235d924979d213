-- Key by key.
use Rattle.std.proofs.Common.{Some, slice_get, ◌≡◌, ◌<◌, length, inl, inr, refl, sym, ◌∙◌, ap, subst, arith}
use Rattle.std.proofs.lemmas.Bool.{cases_lt}
use Rattle.std.proofs.lemmas.Option.{slice_get-get_or, slice_get_within}
use Rattle.chase_laws.specs.declared.pattern.Slot.TheVariants.{Folded}
use Rattle.chase_laws.specs.Shape.{Shape}
use Rattle.graph_rows.proofs.numbered_keys.have_folded.Goals as goal

pub returns-then-has_folded-clause-some : goal.returns-then-has_folded-clause-some
returns-then-has_folded-clause-some c =
    let K = c.args.patterns.now in
    let i = c.loop-pattern.pattern-index in
    let P = c.pattern-item.result in
    let here : slice_get K i ≡ Some P = slice_get-get_or K i P c.loop-pattern-test.true ∙ ap (λ (R : Shape). Some R) (sym c.pattern-item.is) in
    let slots : c.deref.result.now ≡ P.slots = c.deref.ensures.value ∙ ap (λ (R : Shape). R.slots) c.pattern.view_is in
    λ t unfolded.
    let f = c.if-has_folded.ensures.some t in
    unfolded i P here f.0 (subst (λ l. slice_get l f.0 ≡ Some Folded) slots f.1)

pub loop-pattern-preserved : goal.loop-pattern-preserved
loop-pattern-preserved c =
    let K = c.args.patterns.now in
    let i = c.loop-pattern.pattern-index in
    let P = c.pattern-item.result in
    let here : slice_get K i ≡ Some P = slice_get-get_or K i P c.loop-pattern-test.true ∙ ap (λ (R : Shape). Some R) (sym c.pattern-item.is) in
    let slots : c.deref.result.now ≡ P.slots = c.deref.ensures.value ∙ ap (λ (R : Shape). R.slots) c.pattern.view_is in
    λ key Q lt at s folded. elim (cases_lt key i) [
      | inl below ↦ c.loop-pattern.invariant key Q below at s folded
      | inr not_below ↦
          let same : key ≡ i = omega arith in
          let there : Some Q ≡ Some P = sym (subst (λ k. slice_get K k ≡ Some Q) same at) ∙ here in
          let one : Q ≡ P = cc in
          c.if-has_folded.ensures.none refl s (subst (λ l. slice_get l s ≡ Some Folded) (ap (λ (R : Shape). R.slots) one ∙ sym slots) folded)
    ]

pub returns-clause-none : goal.returns-clause-none
returns-clause-none c =
    let K = c.args.patterns.now in
    λ e key Q at s folded.
    let within : key < length K = slice_get_within K key Q at in
    c.loop-pattern.invariant key Q (omega (arith, within, c.loop-pattern-test.false)) at s folded
