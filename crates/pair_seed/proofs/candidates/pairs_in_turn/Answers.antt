use Rattle.std.proofs.Common.{ℕ, map, refl, ap, ◌∙◌, ◌≡◌, ◌++◌, ◌+◌, length, length-append, arith}
use Rattle.std.proofs.lemmas.List.{length-map}
use Rattle.pair_seed.proofs.InOrder.{no_names, of_one, both_runs, too_many}
use Rattle.pair_seed.proofs.candidates.pairs_in_turn.Goals as goal

pub loop-a-init : goal.loop-a-init
loop-a-init c = record {
  pairs = no_names c.args.graph.now c.args.patterns.now c.args.from c.new-pairs.result.items c.new-pairs.ensures.items;
  few = let none = c.new-pairs.ensures.items in rw none (omega arith);
}

pub loop-a-preserved : goal.loop-a-preserved
loop-a-preserved c =
    let G = c.args.graph.now in
    let K = c.args.patterns.now in
    let a = c.loop-a.a in
    let near = c.partners.new.near.items in
    let ps = c.loop-a.pairs.items in
    let e : c.push_all.new.pairs.items ≡ ps ++ map (λ (b : ℕ). (c.loop-a.a, b)) near = c.in_ok-push_all.ensures ∙ ap (λ bs. ps ++ map (λ (b : ℕ). (c.loop-a.a, b)) bs) c.deref.ensures.value in
    let long : length c.push_all.new.pairs.items ≡ length ps + length near = ap length e ∙ length-append ps _ ∙ ap (λ k. length ps + k) (length-map {B = ℕ × ℕ} near (λ (b : ℕ). (c.loop-a.a, b))) in
    let lens = c.partners.new.near.ok.0 in
    let lens' = c.loop-a.pairs.ok.0 in
    record {
      pairs = both_runs G K c.args.from a (a + 1) ps _ c.loop-a.invariant.pairs (of_one G K a near c.in_ok-partners.ensures) c.push_all.new.pairs.items e (omega arith) (omega arith);
      few = let few = c.loop-a.invariant.few in omega arith;
    }

pub returns-then-len-limit-clause-stop : goal.returns-then-len-limit-clause-stop
returns-then-len-limit-clause-stop c =
    let G = c.args.graph.now in
    let K = c.args.patterns.now in
    let a = c.loop-a.a in
    let near = c.partners.new.near.items in
    let lens = c.partners.new.near.ok.0 in
    let lens' = c.loop-a.pairs.ok.0 in
    let few = c.loop-a.invariant.few in
    (refl, too_many G K c.args.from a (a + 1) c.loop-a.pairs.items _ c.loop-a.invariant.pairs (of_one G K a near c.in_ok-partners.ensures) c.args.limit (omega (arith, lens, lens', few, c.if-len-limit.true, length-map {B = ℕ × ℕ} near (λ (b : ℕ). (c.loop-a.a, b)))))
