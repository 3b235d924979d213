use Rattle.std.proofs.Common.{◌<◌, ℕ, All, subst, sym}
use Rattle.steal_pool.specs.Workspaces.{IsOwnDeque, ReachEach}
use Rattle.steal_pool.proofs.hunt.keep_hint.Goals as goal

pub next_hint-requires-clause-own : goal.next_hint-requires-clause-own
next_hint-requires-clause-own c = let h = c.requires.3 in subst (λ (k : ℕ). IsOwnDeque k c.args.workspace.now.own) (sym h.count) h.own

pub next_hint-requires-clause-passes : goal.next_hint-requires-clause-passes
next_hint-requires-clause-passes c = let h = c.requires.3 in subst (λ (k : ℕ). ReachEach k c.args.thieves.now c.args.workspace.now.steal_passes.items) (sym h.count) h.passes

pub next_hint-requires-clause-pending : goal.next_hint-requires-clause-pending
next_hint-requires-clause-pending c = let h = c.requires.3 in subst (λ (k : ℕ). All (λ p. p < k) c.args.workspace.now.pending.items) (sym h.count) h.pending

pub returns-in-None-clause-workspace : goal.returns-in-None-clause-workspace
returns-in-None-clause-workspace c = λ n widest on h.
    let e = c.next_hint.ensures in
    record {
      count = rw e.count h.count;
      own = subst (λ (k : ℕ). IsOwnDeque k c.next_hint.new.workspace.own) h.count e.own;
      passes = subst (λ (k : ℕ). ReachEach k c.args.thieves.now c.next_hint.new.workspace.steal_passes.items) h.count e.passes;
      pending = subst (λ (k : ℕ). All (λ p. p < k) c.next_hint.new.workspace.pending.items) h.count e.pending;
      places = rw e.jobs h.places;
    }
