use Rattle.turn_lock.specs.Handles.{seen}
use Rattle.steal_pool.proofs.worker.begin.Goals as goal

pub returns : goal.returns
returns c =
    let r = c.requires in
    record {
      member = record {
        pass = r.pass;
        out = r.out;
        base = r.base;
        based = r.based;
        posts = r.posts;
        workspace = record {
          count = r.workspace.count;
          own = r.workspace.own;
          passes = r.workspace.passes;
          pending = r.workspace.pending;
          places = c.free_all.ensures.places r.base.0.widest c.args.board.now r.workspace.places;
        };
      };
      jobs = λ B e. c.free_all.ensures.jobs B.0.task (seen c.args.member.now.pass);
    }
