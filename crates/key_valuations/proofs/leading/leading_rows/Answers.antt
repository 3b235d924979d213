-- Name by name.
use Rattle.std.proofs.Common.{List, [], ℕ, Contains, get_or, slice_index, inl, inr, refl, sym, ◌∙◌, subst, arith}
use Rattle.std.proofs.lemmas.List.{take_all}
use Rattle.key_valuations.specs.Leading.{IsLedBy, leading_parts}
use Rattle.key_valuations.specs.Search.{AreLeadsOf}
use Rattle.key_valuations.proofs.CompleteLaws.{contains_more}
use Rattle.key_valuations.proofs.leading.leading_rows.Goals as goal

pub loop-name-init : goal.loop-name-init
loop-name-init c = record {
  leads = record {
    leads = record { key = c.new-rows.ensures.key; value_count = c.new-rows.ensures.value_count; image_count = c.new-rows.ensures.image_count };
    every = λ v led h. absurd (let k = h.1 in omega arith);
  };
  values = c.new-values.ensures.items;
}

pub loop-name-preserved : goal.loop-name-preserved
loop-name-preserved c =
    let search = c.args.search.now in
    let G = search.graph.now in
    let Q = search.pattern.now in
    let leading = search.leading.now in
    let names = c.args.names.now in
    let i = c.loop-name.name-index in
    let name = get_or names i 0 in
    let added = c.in_ok-add_choices.ensures.added in
    let before = c.loop-name.invariant.leads in
    record {
      leads = record {
        leads = record {
          key = added.key ∙ before.leads.key;
          value_count = added.value_count ∙ before.leads.value_count;
          image_count = added.image_count ∙ before.leads.image_count;
        };
        every = λ v led h. elim (contains_more names i (slice_index v 0) 0 c.loop-name-test.true h) [
          | inl old ↦ added.kept (leading_parts G leading search.key v) (before.every v led old)
          | inr new ↦
              (let front : IsLedBy G Q leading name [] v = record { led = led; name = sym new; begins = refl } in
              subst (λ (k : ℕ). Contains c.add_choices.new.rows.parts (leading_parts G leading k v)) before.leads.key
              (added.every v (subst (λ (xs : List ℕ). IsLedBy G Q leading name xs v) (sym c.loop-name.invariant.values) front)))
        ];
      };
      values = c.in_ok-add_choices.ensures.kept ∙ c.loop-name.invariant.values;
    }

pub returns : goal.returns
returns c = subst (λ (names : List ℕ). AreLeadsOf c.args.search.now names c.loop-name.rows) (take_all c.loop-name.name-index c.args.names.now c.loop-name-test.false) c.loop-name.invariant.leads
