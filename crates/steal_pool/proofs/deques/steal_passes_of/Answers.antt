use Rattle.std.proofs.Common.{rules, arith, sym, subst, ◌∙◌}
use Rattle.std.proofs.Math.Seq.{map-set_same}
use Rattle.crossbeam_deque.specs.Handles.{worker_deque}
use Rattle.steal_pool.specs.Workspaces.{HintDeque, ReachFirst, deque_ids}
use Rattle.steal_pool.proofs.Reaching.{reach_more}
use Rattle.steal_pool.proofs.deques.steal_passes_of.Goals as goal

pub loop-k-preserved : goal.loop-k-preserved
loop-k-preserved c =
    let v = c.loop-k.invariant in
    record {
      count = search rules;
      deques = search rules;
      same = map-set_same (λ (w : HintDeque). worker_deque w) c.loop-k.deques c.loop-k.k c.another-pass.new.deque c.index-deques-k.result c.another-pass.ensures.same.0.0 ∙ v.same;
      made = search rules;
      room = search rules;
      reach = subst (ReachFirst c.args.count (deque_ids c.args.deques.now)) (sym c.push_reserved.ensures.items)
          (reach_more c.args.count c.loop-k.k _ c.loop-k.deques c.loop-k.passes.items (record { pass = c.another-pass.result; of = c.loop-k.k }) c.index-deques-k.result
          v.same (omega arith) (omega arith) c.another-pass.ensures.pass.0 (c.another-pass.ensures.pass.1 ∙ (v.deques c.loop-k.k c.index-deques-k.result (omega arith)).bound) v.reach);
    }
