use Rattle.std.proofs.Common.{ℕ, ◌≡◌, ◌<◌, ◌==◌, length, take, get_or, if◌then◌else◌}
use Rattle.std.specs.Prelude.{slice_get}
use Rattle.list_pool.specs.Counts.{times}
use Rattle.list_pool.specs.Pool.{list_at}
use Rattle.class_book.proofs.merge.relabel.Given as goal

abbrev pub invariant-loop-done : goal.invariant-loop-done
invariant-loop-done l = record {
  member : l.member ≡ slice_get (list_at l.members.lists l.from) l.done;
  count : length l.labels.items ≡ length l.fn.labels.items;
  moved : (k : ℕ) → k < length l.fn.labels.items → get_or l.labels.items k 0 ≡
      (if times (take l.done (list_at l.members.lists l.from)) k == 0 then get_or l.fn.labels.items k 0 else l.to);
}
