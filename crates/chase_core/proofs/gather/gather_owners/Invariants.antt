use Rattle.std.proofs.Common.{ℕ, ◌≡◌, Contains, length, take, vec_capacity}
use Rattle.chase_core.specs.Gathering.{LooksFrom, SetsAside, AreAside}
use Rattle.chase_core.proofs.gather.gather_owners.Given as goal

abbrev pub invariant-loop-end : goal.invariant-loop-end
invariant-loop-end l = record {
  states : length l.table.states ≡ length l.setup.task.pairs;
  aside : AreAside l.table.states l.aside.items (vec_capacity l.aside);
  sets : SetsAside (λ q. (e : ℕ) × Contains (take l.end-index l.end-items) e × LooksFrom l.setup l.book.labels l.label q e) l.fn.table l.table l.fn.aside.items l.aside.items;
  capacity : vec_capacity l.aside ≡ vec_capacity l.fn.aside;
}
