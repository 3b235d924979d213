use Rattle.std.proofs.Common.{sym, subst, ◌∙◌}
use Rattle.std.specs.List.{All}
use Rattle.std.proofs.Math.ListN.{set}
use Rattle.std.proofs.lemmas.List.Elements.{All-set}
use Rattle.turn_lock.specs.Handles.{seen}
use Rattle.steal_pool.specs.declared.workspace.Job.{Job}
use Rattle.steal_pool.specs.Bases.{Base}
use Rattle.steal_pool.specs.Batches.{IsJob}
use Rattle.steal_pool.specs.Workspaces.{IsPlace}
use Rattle.steal_pool.proofs.Jobs.{same_base}
use Rattle.steal_pool.proofs.worker.search_at.Goals as goal

pub search_job-requires-clause-place : goal.search_job-requires-clause-place
search_job-requires-clause-place c =
    let b = c.requires.at_work in
    let same = same_base b.member.base (c.args.setup.now, c.args.board.now) (sym b.member.based ∙ c.requires.setup) in
    subst (λ (B : Base). IsPlace B.0.widest c.args.board.now c.index_mut.result.now) same
    (subst (λ (j : Job). IsPlace b.member.base.0.widest c.args.board.now j) (sym c.index_mut.ensures.value) (b.member.workspace.places c.args.k c.index_mut.result.now c.requires.within))

pub search_job-requires-clause-job : goal.search_job-requires-clause-job
search_job-requires-clause-job c = (
  seen c.args.member.now.pass,
  subst (λ (j : Job). IsJob c.args.setup.now.task (seen c.args.member.now.pass) j) (sym c.index_mut.ensures.value)
      (c.requires.at_work.jobs (c.args.setup.now, c.args.board.now) c.requires.setup c.args.k c.index_mut.result.now c.requires.within),
)

pub returns-clause-at_work : goal.returns-clause-at_work
returns-clause-at_work c =
    let b = c.requires.at_work in
    let S = c.args.setup.now in
    let B : Base = (S, c.args.board.now) in
    let jobs = c.args.member.now.workspace.jobs.items in
    let log = seen c.args.member.now.pass in
    let w = b.member.workspace in
    let same = same_base B b.member.base (sym c.requires.setup ∙ b.member.based) in
    record {
      member = record {
        pass = b.member.pass;
        out = b.member.out;
        base = b.member.base;
        based = b.member.based;
        posts = b.member.posts;
        workspace = record {
          count = w.count;
          own = w.own;
          passes = w.passes;
          pending = w.pending;
          places = All-set (IsPlace b.member.base.0.widest c.args.board.now) jobs c.args.k c.search_job.new.job
              (subst (λ (Z : Base). IsPlace Z.0.widest c.args.board.now c.search_job.new.job) same c.search_job.ensures.place)
              w.places;
        };
      };
      jobs = λ Z e. subst (λ (Y : Base). All (IsJob Y.0.task log) (set jobs c.args.k c.search_job.new.job)) (same_base B Z (sym c.requires.setup ∙ e))
          (All-set (IsJob S.task log) jobs c.args.k c.search_job.new.job
          (c.search_job.ensures.job log (subst (λ (j : Job). IsJob S.task log j) (sym c.index_mut.ensures.value) (b.jobs B c.requires.setup c.args.k c.index_mut.result.now c.requires.within)))
          (b.jobs B c.requires.setup));
    }
