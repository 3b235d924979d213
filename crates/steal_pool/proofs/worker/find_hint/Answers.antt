use Rattle.std.proofs.Common.{All, Vec, Global, sym, subst}
use Rattle.turn_lock.specs.Handles.{seen}
use Rattle.steal_pool.specs.declared.workspace.Job.{Job}
use Rattle.steal_pool.specs.Batches.{IsJob}
use Rattle.steal_pool.proofs.worker.find_hint.Goals as goal

pub returns : goal.returns
returns c =
    let m = c.requires.member in
    let e = c.keep_hint.ensures in
    record {
      member = record {
        pass = m.pass;
        out = m.out;
        base = m.base;
        based = m.based;
        posts = m.posts;
        workspace = e.workspace _ _ c.args.board.now m.workspace;
      };
      jobs = λ B is. subst (λ (js : Vec Job Global). All (IsJob B.0.task (seen c.args.member.now.pass)) js.items) (sym e.jobs) (c.requires.jobs B is);
    }
