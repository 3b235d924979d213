use Rattle.std.proofs.Common.{◌≡◌, All, length}
use Rattle.steal_pool.specs.Workspaces.{IsWorkspace}
use Rattle.steal_pool.specs.Batches.{IsJob}
use Rattle.steal_pool.proofs.batch.take_all.Given as goal

abbrev pub invariant-loop-k : goal.invariant-loop-k
invariant-loop-k l = record {
  count : length l.workspace.jobs.items ≡ length l.fn.workspace.jobs.items;
  setup : l.shared.chase.setup ≡ l.fn.shared.chase.setup;
  book : l.shared.chase.book ≡ l.fn.shared.chase.book;
  scribe : l.shared.scribe ≡ l.fn.shared.scribe;
  jobs : All (IsJob l.fn.shared.chase.setup.task l.fn.shared.chase.book.journal) l.workspace.jobs.items;
  workspace : IsWorkspace (length l.fn.shared.chase.setup.task.pairs) l.fn.shared.chase.setup.widest l.board l.thieves l.workspace;
}
