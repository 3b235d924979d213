use Rattle.std.proofs.Common.{rules, ◌++◌, ap, ◌∙◌, append_assoc}
use Rattle.steal_pool.proofs.Jobs.{settled_one}
use Rattle.steal_pool.proofs.batch.settle_all.Goals as goal

pub loop-k-preserved : goal.loop-k-preserved
loop-k-preserved c =
    let v = c.loop-k.invariant in
    let e = c.settle_job.ensures in
    record {
      count = search rules;
      settled = search rules;
      setup = e.setup ∙ v.setup;
      grows = (v.grows.0 ++ e.grows.0, e.grows.1 ∙ ap (λ js. js ++ e.grows.0) v.grows.1 ∙ append_assoc c.args.shared.now.chase.book.journal v.grows.0 e.grows.0);
      pending = e.pending;
      jobs = settled_one c.loop-k.shared.chase.setup c.settle_job.new.shared.chase.setup c.loop-k.shared.chase.book.journal _ e.grows.0 c.loop-k.jobs c.loop-k.k c.settle_job.new.job
          e.setup e.grows.1 e.job v.jobs;
      board = e.board ∙ v.board;
      places = search rules;
    }
