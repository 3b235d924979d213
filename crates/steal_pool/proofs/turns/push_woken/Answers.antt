use Rattle.std.proofs.Common.{ℕ, All, ◌<◌, sym, subst, arith}
use Rattle.steal_pool.specs.Workspaces.{IsOwnDeque}
use Rattle.steal_pool.proofs.turns.push_woken.Goals as goal

pub push_kept-requires-clause-own : goal.push_kept-requires-clause-own
push_kept-requires-clause-own c = let w = c.requires.member.workspace in subst (λ (n : ℕ). IsOwnDeque n c.args.member.now.workspace.own) (sym w.count) w.own

pub push_kept-requires-clause-pending : goal.push_kept-requires-clause-pending
push_kept-requires-clause-pending c = let w = c.requires.member.workspace in subst (λ (n : ℕ). All (λ p. p < n) c.args.member.now.workspace.pending.items) (sym w.count) w.pending

pub returns-clause-at_work : goal.returns-clause-at_work
returns-clause-at_work c =
    let m = c.requires.member in
    let w = m.workspace in
    record {
      member = record {
        pass = m.pass;
        out = m.out;
        base = m.base;
        based = m.based;
        posts = m.posts;
        workspace = record {
          count = w.count;
          own = subst (λ (n : ℕ). IsOwnDeque n c.push_kept.new.own) w.count c.push_kept.ensures.own;
          passes = w.passes;
          pending = rw c.push_kept.ensures.empty (λ k d l. absurd (omega arith));
          places = w.places;
        };
      };
      jobs = c.requires.jobs;
    }
