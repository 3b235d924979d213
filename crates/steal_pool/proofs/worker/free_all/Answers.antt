use Rattle.std.proofs.Common.{rules, arith, sym, subst}
use Rattle.std.proofs.lemmas.List.Elements.{All-set}
use Rattle.steal_pool.specs.declared.workspace.Job.{Job}
use Rattle.steal_pool.specs.Workspaces.{IsPlace}
use Rattle.steal_pool.proofs.worker.free_all.Goals as goal

pub loop-k-preserved : goal.loop-k-preserved
loop-k-preserved c =
    let v = c.loop-k.invariant in
    let job = c.index_mut.result.now in
    record {
      count = search rules;
      places = λ widest on h.
          let each = v.places widest on h in
          let place : IsPlace widest on job = subst (λ (j : Job). IsPlace widest on j) (sym c.index_mut.ensures.value) (each c.loop-k.k job (omega arith)) in
          All-set (IsPlace widest on) c.loop-k.jobs.items c.loop-k.k _ (record { room = place.room; watches = place.watches }) each;
      free = search rules;
    }
