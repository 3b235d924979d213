use Rattle.std.proofs.Common.{rules, arith, ℕ, ◌≡◌, ◌+◌, ◌*◌, All, Option, Some, IfSome, Vec, Global, sym, subst, ap, length, vec_len}
use Rattle.std.proofs.lemmas.List.Elements.{All-pop, All-push}
use Rattle.steal_pool.specs.declared.workspace.Job.{Job}
use Rattle.steal_pool.specs.declared.workspace.StealPass.{StealPass}
use Rattle.steal_pool.specs.Workspaces.{IsOwnDeque, IsPlace, IsWorkspace, ReachAll, thief_ids}
use Rattle.steal_pool.proofs.Reaching.{workspace_made}
use Rattle.steal_pool.proofs.workspaces.workspaces.Goals as goal

fewer : (w w' n n' each : ℕ) → w ≡ n * each → n ≡ n' + 1 → w' + each ≡ w → w' ≡ n' * each
fewer w w' n n' each h e l = let i : w ≡ (n' + 1) * each = subst (λ (k : ℕ). w ≡ k * each) e h in omega arith

pub loop-own-preserved : goal.loop-own-preserved
loop-own-preserved c =
    let v = c.loop-own.invariant in
    let os = All-pop (IsOwnDeque (length c.pairs.result.now)) c.loop-own.owned.items c.pop.new.self.items (Some c.in-Some.own) c.in-Some.ensures.items v.deques in
    let R : Vec StealPass Global → Type 0 = λ r. ReachAll (length c.pairs.result.now) (thief_ids c.in_ok-thieves.thieves.items) r.items in
    let rs = All-pop R c.loop-own.lists.items c.pop-in-Some.new.self.items c.pop-in-Some.result c.pop-in-Some.ensures.items v.reach in
    let e = c.in_ok-workspace.ensures in
    let one_less : vec_len c.loop-own.owned ≡ vec_len c.pop.new.self + 1 = search rules in
    record {
      lists = search rules;
      made = search rules;
      room = search rules;
      deques = os.0;
      reach = rs.0;
      enough = fewer (length c.loop-own.watchers.items) (length c.free_jobs.new.watchers.items) _ _ c.args.each v.enough one_less c.in_ok-jobs.ensures.left;
      watchers = c.in_ok-jobs.ensures.watchers;
      workspaces = rw c.push_reserved.ensures.items (All-push (IsWorkspace (length c.args.setup.now.task.pairs) c.args.setup.now.widest c.args.board.now c.in_ok-thieves.thieves.items) c.loop-own.workspaces.items c.in_ok-workspace.workspace v.workspaces
          (workspace_made _ _ _ c.args.board.now c.in_ok-thieves.thieves.items c.in_ok-workspace.workspace c.in-Some.own c.unwrap-passes.result (ap length c.pairs.ensures.pairs)
          e.count e.own e.passes e.pending (subst (λ (js : Vec Job Global). All (IsPlace c.args.setup.now.widest c.args.board.now) js.items) (sym e.jobs) (subst (λ n. All (IsPlace n c.args.board.now) c.in_ok-jobs.jobs.items) c.widest-widest.ensures.widest c.in_ok-jobs.ensures.places)) os.1 (subst (λ (r : Option (Vec StealPass Global)). IfSome r R) c.unwrap-passes.ensures rs.1)));
    }
