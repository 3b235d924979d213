use Rattle.std.proofs.Common.{ℕ, ◌≡◌, ◌<◌, Contains, Some, length, slice_get}
use Rattle.std.specs.Prelude.{IfSome}
use Rattle.list_pool.specs.Pool.{list_at}
use Rattle.class_book.specs.Classes.{class_of}
use Rattle.signature_chase.proofs.waking.wake_class.Given as goal

abbrev pub invariant-loop-done : goal.invariant-loop-done
invariant-loop-done l = record {
  member : l.member ≡ slice_get (class_of l.book l.node) l.done;
  same_class : IfSome l.member (λ n. (n < length l.book.labels) × (class_of l.book n ≡ class_of l.book l.node));
  woken : (i m g : ℕ) → i < l.done → slice_get (class_of l.book l.node) i ≡ Some m → Contains (list_at l.owners m) g → Contains l.queue.list g;
  kept : (g : ℕ) → Contains l.fn.queue.list g → Contains l.queue.list g;
  count : l.queue.count ≡ l.fn.queue.count;
}
