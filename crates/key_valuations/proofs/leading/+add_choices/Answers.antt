-- Every literal is tried, but for those that no other name may have.
use Rattle.std.proofs.Common.{List, [], ◌∷◌, ◌++◌, ℕ, Some, take, slice_get, length, ◌≡◌, refl, ◌∙◌, ap, subst, arith}
use Rattle.std.proofs.lemmas.List.{take_all, take-append-le}
use Rattle.chase_laws.proofs.CallerLemmas.{All-at}
use Rattle.key_valuations.specs.Leading.{IsLeading, IsLedBy, AddsLed}
use Rattle.key_valuations.proofs.LeadingLaws.{IsLedAmong, led_none, led_more, led_skip, led_done}
use Rattle.key_valuations.proofs.leading.+add_choices.Goals as goal

pub loop-literal-init : goal.loop-literal-init
loop-literal-init t c = record {
  values = refl;
  added = led_none c.args.graph.now c.args.leading.now (IsLedAmong c.args.graph.now c.args.pattern.now c.args.leading.now c.lead_at-lead.result c.args.name c.args.values.now.items []) c.args.rows.now
      (λ v r. absurd (let k = r.among.1 in omega arith));
  value_count = c.requires.value_count;
  image_count = c.requires.image_count;
}

pub returns-clause-added : goal.returns-clause-added
returns-clause-added t c =
    let G = c.args.graph.now in
    let Q = c.args.pattern.now in
    let leading = c.args.leading.now in
    let front = c.args.values.now.items in
    let lead = c.lead_at-lead.result in
    let literals = c.outgoing-literals.result.now in
    let at : slice_get leading (length front) ≡ Some lead = subst (λ k. slice_get leading k ≡ Some lead) c.requires.at c.lead_at-lead.ensures in
    let is : IsLeading Q lead = All-at (IsLeading Q) leading (length front) lead c.requires.leading at in
    led_done G Q leading lead is c.args.name front at literals c.args.rows.now c.loop-literal.rows (λ o row. (c.outgoing-literals.ensures.exact o).1 row)
    (subst (λ (ls : List ℕ). AddsLed G leading (IsLedAmong G Q leading lead c.args.name front ls) c.args.rows.now c.loop-literal.rows) (take_all c.loop-literal.literal-index literals c.loop-literal-test.false) c.loop-literal.invariant.added)

pub loop-literal-preserved-then-not-may_be_shared : goal.loop-literal-preserved-then-not-may_be_shared
loop-literal-preserved-then-not-may_be_shared t c =
    let G = c.args.graph.now in
    let Q = c.args.pattern.now in
    let leading = c.args.leading.now in
    let front = c.args.values.now.items in
    let lead = c.lead_at-lead.result in
    let literals = c.outgoing-literals.result.now in
    let at : slice_get leading (length front) ≡ Some lead = subst (λ k. slice_get leading k ≡ Some lead) c.requires.at c.lead_at-lead.ensures in
    let is : IsLeading Q lead = All-at (IsLeading Q) leading (length front) lead c.requires.leading at in
    record {
      values = c.loop-literal.invariant.values;
      added = led_skip G Q leading lead is c.args.name front at literals c.loop-literal.literal-index c.loop-literal-test.true c.args.rows.now c.loop-literal.rows c.loop-literal.invariant.added
          (λ l. c.may_be_shared.ensures.alone c.if-not-may_be_shared.true l);
      value_count = c.loop-literal.invariant.value_count;
      image_count = c.loop-literal.invariant.image_count;
    }

pub loop-literal-preserved : goal.loop-literal-preserved
loop-literal-preserved t c =
    let G = c.args.graph.now in
    let Q = c.args.pattern.now in
    let leading = c.args.leading.now in
    let name = c.args.name in
    let front = c.args.values.now.items in
    let lead = c.lead_at-lead.result in
    let literals = c.outgoing-literals.result.now in
    let y = c.value_of-value.result in
    let at : slice_get leading (length front) ≡ Some lead = subst (λ k. slice_get leading k ≡ Some lead) c.requires.at c.lead_at-lead.ensures in
    let is : IsLeading Q lead = All-at (IsLeading Q) leading (length front) lead c.requires.leading at in
    let pushed : c.push-in-loop-literal.new.self.items ≡ front ++ y ∷ [] = c.in_ok-push-2.ensures.items ∙ ap (λ (xs : List ℕ). xs ++ y ∷ []) c.loop-literal.invariant.values in
    let more = c.in_ok-add_choices.ensures.added in
    let back : take c.args.at (front ++ y ∷ []) ≡ front = take-append-le c.args.at front (y ∷ []) (omega arith) ∙ take_all c.args.at front (omega arith) in
    record {
      values = c.truncate.ensures.items ∙ ap (take c.args.at) (c.in_ok-add_choices.ensures.kept ∙ pushed) ∙ back;
      added = led_more G Q leading lead is name front at literals c.loop-literal.literal-index c.loop-literal-test.true c.args.rows.now c.loop-literal.rows c.loop-literal.invariant.added c.add_choices.new.rows y c.value_of-value.ensures
          (subst (λ (xs : List ℕ). AddsLed G leading (IsLedBy G Q leading name xs) c.loop-literal.rows c.add_choices.new.rows) pushed more);
      value_count = more.value_count ∙ c.loop-literal.invariant.value_count;
      image_count = more.image_count ∙ c.loop-literal.invariant.image_count;
    }
