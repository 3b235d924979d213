use Rattle.std.proofs.Common.{rules, ◌≡◌, Option, IfSome, subst}
use Rattle.std.proofs.lemmas.List.Elements.{All-pop, All-push}
use Rattle.label_board.specs.Seen.{SeenWatcher}
use Rattle.steal_pool.specs.Workspaces.{IsPlace}
use Rattle.steal_pool.proofs.workspaces.free_jobs.Goals as goal

pub loop-preserved : goal.loop-preserved
loop-preserved c =
    let v = c.loop.invariant in
    let W : SeenWatcher → Type 0 = λ w. w.board ≡ c.args.board.now.id in
    let ws = All-pop W c.loop.watchers.items c.pop.new.self.items c.pop.result c.pop.ensures.items v.watchers in
    record {
      count = search rules;
      room = search rules;
      left = search rules;
      watchers = ws.0;
      places = rw c.push_reserved.ensures.items (All-push (IsPlace c.args.widest c.args.board.now) c.loop.jobs.items _ v.places
          (record { room = search rules; watches = subst (λ (r : Option SeenWatcher). IfSome r W) c.unwrap-watcher.ensures ws.1 }));
    }
