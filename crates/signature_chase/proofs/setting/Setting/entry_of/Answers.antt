-- Both rows are those of valuations of the group's key.
use Rattle.std.proofs.Common.{List, ℕ, length, drop, get_or, ◌≡◌, ◌<◌, sym, ◌∙◌, ap, subst, arith}
use Rattle.std.specs.Prelude.{slice_index}
use Rattle.std.proofs.lemmas.Option.{slice_get-get_or}
use Rattle.chase_laws.specs.Signature.{ArePartsOfSome}
use Rattle.key_valuations.specs.Parts.{HasParts}
use Rattle.valuation_groups.specs.Groups.{row_in, parts_in}
use Rattle.signature_chase.specs.Setting.{Work, IsEntryOf}
use Rattle.signature_chase.proofs.Sides.{key_within, some_parts, plan_at}
use Rattle.signature_chase.proofs.setting.Setting.entry_of.Goals as goal

pub bounds-self-inside-key : goal.bounds-self-inside-key
bounds-self-inside-key c =
    let group = c.args.group.now in
    let p = parts_in group (row_in group c.args.left) in
    key_within c.self.inside.graph.now c.self.inside.patterns.now group (row_in group c.args.left) c.key-key.result c.key-key.ensures
    (subst (λ (W : Work). ArePartsOfSome W.graph W.patterns p) (sym c.self.view_is) (c.requires.group.parts c.args.left c.requires.left))

pub index-plan-requires : goal.index-plan-requires
index-plan-requires c =
    let group = c.args.group.now in
    let p = parts_in group (row_in group c.args.left) in
    let within = key_within c.self.inside.graph.now c.self.inside.patterns.now group (row_in group c.args.left) c.key-key.result c.key-key.ensures
    (subst (λ (W : Work). ArePartsOfSome W.graph W.patterns p) (sym c.self.view_is) (c.requires.group.parts c.args.left c.requires.left)) in
    omega (arith, c.self.invariant.planned.as_many, c.self.inside.plans.ok.0)

pub valuation_of-requires-clause-plan : goal.valuation_of-requires-clause-plan
valuation_of-requires-clause-plan c =
    let group = c.args.group.now in
    let p = parts_in group (row_in group c.args.left) in
    let K = c.self.inside.patterns.now in
    let within = key_within c.self.inside.graph.now K group (row_in group c.args.left) c.key-key.result c.key-key.ensures
    (subst (λ (W : Work). ArePartsOfSome W.graph W.patterns p) (sym c.self.view_is) (c.requires.group.parts c.args.left c.requires.left)) in
    plan_at K c.self.inside.plans.items c.key-key.result c.index-self-key.result c.index-plan.result.now c.self.invariant.planned within c.index-plan.ensures

pub valuation_of-requires-clause-some : goal.valuation_of-requires-clause-some
valuation_of-requires-clause-some c =
    let group = c.args.group.now in
    let p = parts_in group (row_in group c.args.left) in
    some_parts c.self.inside.graph.now c.self.inside.patterns.now group (row_in group c.args.left) c.key-key.result c.index-self-key.result c.key-key.ensures
    (subst (λ (W : Work). ArePartsOfSome W.graph W.patterns p) (sym c.self.view_is) (c.requires.group.parts c.args.left c.requires.left))

pub valuation_of-requires-2-clause-plan : goal.valuation_of-requires-2-clause-plan
valuation_of-requires-2-clause-plan c =
    let group = c.args.group.now in
    let p = parts_in group (row_in group c.args.left) in
    let K = c.self.inside.patterns.now in
    let within = key_within c.self.inside.graph.now K group (row_in group c.args.left) c.key-key.result c.key-key.ensures
    (subst (λ (W : Work). ArePartsOfSome W.graph W.patterns p) (sym c.self.view_is) (c.requires.group.parts c.args.left c.requires.left)) in
    plan_at K c.self.inside.plans.items c.key-key.result c.index-self-key.result c.index-plan.result.now c.self.invariant.planned within c.index-plan.ensures

pub valuation_of-requires-2-clause-some : goal.valuation_of-requires-2-clause-some
valuation_of-requires-2-clause-some c =
    let group = c.args.group.now in
    let p = parts_in group (row_in group c.args.right) in
    some_parts c.self.inside.graph.now c.self.inside.patterns.now group (row_in group c.args.right) c.key-key.result c.index-self-key.result c.key-key.ensures
    (subst (λ (W : Work). ArePartsOfSome W.graph W.patterns p) (sym c.self.view_is) (c.requires.group.parts c.args.right c.requires.right))

pub returns : goal.returns
returns c =
    let group = c.args.group.now in
    let left = row_in group c.args.left in
    let right = row_in group c.args.right in
    let p = parts_in group left in
    let G = c.self.inside.graph.now in
    let K = c.self.inside.patterns.now in
    let Q = get_or K c.key-key.result c.index-self-key.result in
    let within = key_within G K group left c.key-key.result c.key-key.ensures
    (subst (λ (W : Work). ArePartsOfSome W.graph W.patterns p) (sym c.self.view_is) (c.requires.group.parts c.args.left c.requires.left)) in
    let made : IsEntryOf G K group c.args.left c.args.right (record { a = c.name.result; b = c.name-2.result; key = c.key-key.result; left = c.valuation_of.result; right = c.valuation_of-2.result }) = record {
      pattern = Q;
      key = slice_get-get_or K c.key-key.result c.index-self-key.result within;
      left = subst (λ n. HasParts G Q n group.values (drop 1 left) c.valuation_of.result) (sym c.name.ensures) c.valuation_of.ensures;
      right = subst (λ n. HasParts G Q n group.values (drop 1 right) c.valuation_of-2.result) (sym c.name-2.ensures) c.valuation_of-2.ensures;
      a = c.name.ensures;
      b = c.name-2.ensures;
    } in
    subst (λ (W : Work). IsEntryOf W.graph W.patterns group c.args.left c.args.right (record { a = c.name.result; b = c.name-2.result; key = c.key-key.result; left = c.valuation_of.result; right = c.valuation_of-2.result })) c.self.view_is made
