use Rattle.std.proofs.Common.{ℕ, ◌≡◌, ◌<◌, Contains, length, slice_get, take, vec_capacity}
use Rattle.std.specs.Prelude.{IfSome}
use Rattle.class_book.specs.Classes.{class_of}
use Rattle.chase_core.specs.Gathering.{LooksPast, SetsAside, AreAside}
use Rattle.chase_core.proofs.gather.gather_class.Given as goal

abbrev pub invariant-loop-done : goal.invariant-loop-done
invariant-loop-done l = record {
  states : length l.table.states ≡ length l.setup.task.pairs;
  aside : AreAside l.table.states l.aside.items (vec_capacity l.aside);
  member : l.member ≡ slice_get (class_of l.book l.one) l.done;
  same_class : IfSome l.member (λ n. (n < length l.book.labels) × (class_of l.book n ≡ class_of l.book l.one));
  sets : SetsAside (λ q. (n : ℕ) × Contains (take l.done (class_of l.book l.one)) n × LooksPast l.setup l.book.labels l.label q n)
      l.fn.table l.table l.fn.aside.items l.aside.items;
  capacity : vec_capacity l.aside ≡ vec_capacity l.fn.aside;
}
