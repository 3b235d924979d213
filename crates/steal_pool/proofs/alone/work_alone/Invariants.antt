use Rattle.std.proofs.Common.{List, ◌≡◌, ◌<◌, ◌++◌, All, length}
use Rattle.chase_laws.specs.declared.entry.Entry.{Entry}
use Rattle.steal_pool.proofs.alone.work_alone.Given as goal

abbrev pub invariant-loop : goal.invariant-loop
invariant-loop g l = record {
  setup : l.chase.setup ≡ l.fn.chase.setup;
  count : length l.chase.setup.task.pairs ≡ l.count;
  grows : (more : List Entry) × (l.chase.book.journal ≡ l.fn.chase.book.journal ++ more);
  hints : All (λ p. p < l.count) l.workspace.pending.items;
}
