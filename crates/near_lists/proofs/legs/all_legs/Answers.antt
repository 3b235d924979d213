use Rattle.std.proofs.Common.{List, [], ℕ, ap, length, subst, arith}
use Rattle.near_lists.specs.Adding.{Adds}
use Rattle.near_lists.specs.Legs.{IsLegOf, RiseTo}
use Rattle.near_lists.proofs.Adding.{adds_more}
use Rattle.near_lists.proofs.Levels.{rise_on, all_levels}
use Rattle.near_lists.proofs.legs.all_legs.Goals as goal

pub loop-level-preserved : goal.loop-level-preserved
loop-level-preserved c =
    let Q = c.args.pattern.now in
    let distances = c.in_ok-distances.distances.items in
    let mid = c.loop-level.legs.items in
    let new = c.push_level.new.legs.items in
    let level = c.loop-level.level in
    record {
      added = adds_more [] mid new (IsLegOf Q distances) level c.loop-level.invariant.added (subst (λ (ds : List ℕ). Adds mid new (IsLegOf Q ds level)) c.deref.ensures.value c.in_ok-push_level.ensures.added);
      rise = rise_on distances level new (subst (λ (ds : List ℕ). RiseTo ds level new) c.deref.ensures.value c.in_ok-push_level.ensures.rise);
    }

pub returns : goal.returns
returns c =
    all_levels c.args.pattern.now c.in_ok-distances.distances.items c.loop-level.level c.loop-level.level c.loop-level.legs.items c.slots.ensures.facts c.in_ok-distances.ensures
    (let long = ap length c.slots.ensures.slots in let few = c.slots.ensures.facts.few_slots in omega arith) c.loop-level.invariant.added c.loop-level.invariant.rise
