-- One level more.
use Rattle.std.proofs.Common.{ℕ, List, ◌≡◌, ◌+◌, length, slice_index, take, drop, ◌++◌, sym, ◌∙◌, ap, subst, arith}
use Rattle.std.proofs.lemmas.List.{length-replicate}
use Rattle.key_plan.specs.Distance.{IsDistance}
use Rattle.key_plan.specs.Making.{AreRaised}
use Rattle.key_plan.proofs.Levels.{raised, none_raised, lent_whole, length-marks, reached_from, widened, zeros_at}
use Rattle.key_plan.proofs.distance.distances.Goals as goal

pub loop-level-init : goal.loop-level-init
loop-level-init c = record {
  marks = c.in_ok-marks.ensures;
  one_each = ap length c.in_ok-distances.ensures ∙ length-replicate (length c.slots-count.result.now) 0 ∙ ap length c.slots-count.ensures.slots;
  each = none_raised c.args.pattern.now c.in_ok-distances.distances.items (zeros_at (length c.slots-count.result.now) c.in_ok-distances.distances.items c.in_ok-distances.ensures);
}

pub set_unmarked-requires : goal.set_unmarked-requires
set_unmarked-requires c = ap length c.deref_mut.ensures.value ∙ c.loop-level.invariant.one_each ∙ sym (length-marks c.args.pattern.now c.loop-level.level) ∙ sym (ap length c.loop-level.invariant.marks) ∙ sym (ap length c.deref.ensures.value)

pub loop-level-preserved : goal.loop-level-preserved
loop-level-preserved c =
    let Q = c.args.pattern.now in
    let n = c.loop-level.level in
    let new = c.set_unmarked.new.distances in
    let old = c.loop-level.distances.items in
    let long : length new ≡ length old = c.set_unmarked.ensures.one_each ∙ ap length c.deref_mut.ensures.value in
    let whole : take c.loop-level.distances.len (new ++ drop (length new) old) ≡ new = lent_whole c.loop-level.distances.len new old long (sym (ap length c.deref_mut.ensures.value) ∙ c.deref_mut.ensures.len) in
    let raise : AreRaised c.deref.result.now (n + 1) old new = subst (λ (xs : List ℕ). AreRaised c.deref.result.now (n + 1) xs new) c.deref_mut.ensures.value c.set_unmarked.ensures in
    record {
      marks = widened Q n _ _ c.in_ok-wider.wider.items (c.deref-in-loop-level.ensures.value ∙ c.loop-level.invariant.marks) c.edges.ensures.edges c.in_ok-wider.ensures;
      one_each = ap length whole ∙ long ∙ c.loop-level.invariant.one_each;
      each = λ s h. subst (λ (xs : List ℕ). IsDistance Q s (slice_index xs s)) (sym whole) (raised Q n c.deref.result.now old new (c.deref.ensures.value ∙ c.loop-level.invariant.marks) raise c.loop-level.invariant.each s h);
    }

pub returns : goal.returns
returns c = record {
  one_each = c.loop-level.invariant.one_each;
  each = λ s l. c.loop-level.invariant.each s (reached_from c.args.pattern.now (length c.args.pattern.now.slots) c.loop-level.level s (omega (arith, ap length c.slots-count.ensures.slots)) (c.slots-count.ensures.facts.connected s l));
}
