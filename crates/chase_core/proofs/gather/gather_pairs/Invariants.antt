use Rattle.std.proofs.Common.{ℕ, ◌≡◌, Contains, length, take, vec_capacity}
use Rattle.chase_core.specs.Gathering.{LooksFrom, SetsAside, AreAside}
use Rattle.chase_core.proofs.gather.gather_pairs.Given as goal

abbrev pub invariant-loop-pair : goal.invariant-loop-pair
invariant-loop-pair l = record {
  states : length l.table.states ≡ length l.setup.task.pairs;
  aside : AreAside l.table.states l.aside.items (vec_capacity l.aside);
  sets : SetsAside (λ q. (p : ℕ) × Contains (take l.pair-index l.pair-items) p × ((p ≡ q) × LooksFrom l.setup l.book.labels l.label q l.end)) l.fn.table l.table l.fn.aside.items l.aside.items;
  capacity : vec_capacity l.aside ≡ vec_capacity l.fn.aside;
}
