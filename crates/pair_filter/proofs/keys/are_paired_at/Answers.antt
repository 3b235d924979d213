use Rattle.std.proofs.Common.{None, ◌∙◌, subst, sym, true≢false}
use Rattle.chase_laws.specs.declared.pattern.Slot.TheVariants.{Entity}
use Rattle.chase_laws.specs.Shape.{Shape}
use Rattle.pair_filter.specs.Depth.{filter_depth}
use Rattle.pair_filter.specs.Keys.{IsRuledOut}
use Rattle.pair_filter.proofs.Idle.{unpaired_out, under_paired, at_key, key_at}
use Rattle.pair_filter.proofs.Steps.{except_any, except_none}
use Rattle.pair_filter.proofs.keys.are_paired_at.Goals as goal

pub returns-clause-paired : goal.returns-clause-paired
returns-clause-paired c = λ yes.
    let G = c.args.graph.now in
    let Q = c.index-patterns-key.result in
    let a = c.args.pair.0 in
    let b = c.args.pair.1 in (
      Q,
      key_at c.args.patterns.now c.args.key Q c.requires c.index-patterns-key.is,
      under_paired G Q a b c.designated_type.result c.designated_type.ensures (except_none G Q filter_depth 0 a b (c.are_paired_along.ensures.0 yes)),
    )

pub returns-clause-ruled_out : goal.returns-clause-ruled_out
returns-clause-ruled_out c = λ no R found.
    let G = c.args.graph.now in
    let Q = c.index-patterns-key.result in
    let a = c.args.pair.0 in
    let b = c.args.pair.1 in
    subst (λ (X : Shape). IsRuledOut G X a b) (at_key c.args.patterns.now c.args.key Q R c.index-patterns-key.is found)
    (unpaired_out G Q a b c.designated_type.result c.designated_type.ensures
    (λ under. true≢false (sym (c.are_paired_along.ensures.1 (except_any G Q None filter_depth 0 a b under.paired)) ∙ no)))

-- names that the key pairs have its type
pub returns-then-not-have_type-clause-ruled_out : goal.returns-then-not-have_type-clause-ruled_out
returns-then-not-have_type-clause-ruled_out c = λ no R found.
    let G = c.args.graph.now in
    let Q = c.index-patterns-key.result in
    let a = c.args.pair.0 in
    let b = c.args.pair.1 in
    let t = c.designated_type in
    subst (λ (X : Shape). IsRuledOut G X a b) (at_key c.args.patterns.now c.args.key Q R c.index-patterns-key.is found)
    (unpaired_out G Q a b t.result t.ensures
    (λ under. let here = under.paired.0 (Entity t.result) t.ensures in true≢false (sym (c.have_type.ensures.1 (here.0, here.1)) ∙ c.if-not-have_type.true)))
