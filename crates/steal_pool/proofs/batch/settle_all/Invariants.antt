use Rattle.std.proofs.Common.{◌≡◌, ◌++◌, ◌<◌, ℕ, All, List, length, get_or}
use Rattle.chase_laws.specs.declared.entry.Entry.{Entry}
use Rattle.steal_pool.specs.declared.workspace.Job.{Job}
use Rattle.steal_pool.specs.Workspaces.{IsPlace}
use Rattle.steal_pool.specs.Batches.{IsJob, IsSearched}
use Rattle.steal_pool.proofs.batch.settle_all.Given as goal

abbrev pub invariant-loop-k : goal.invariant-loop-k
invariant-loop-k l = record {
  count : length l.jobs ≡ length l.fn.jobs;
  settled : (i : ℕ) (d : Job) → i < l.k → i < length l.fn.jobs → ¬ (IsSearched (get_or l.jobs i d).progress);
  setup : l.shared.chase.setup ≡ l.fn.shared.chase.setup;
  grows : (more : List Entry) × (l.shared.chase.book.journal ≡ l.fn.shared.chase.book.journal ++ more);
  pending : All (λ p. p < l.count) l.pending.items;
  jobs : All (IsJob l.shared.chase.setup.task l.shared.chase.book.journal) l.jobs;
  board : l.shared.scribe.board ≡ l.fn.shared.scribe.board;
  places : All (IsPlace l.fn.shared.chase.setup.widest l.board) l.jobs;
}
