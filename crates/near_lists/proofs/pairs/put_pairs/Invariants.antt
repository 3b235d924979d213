use Rattle.std.proofs.Common.{ℕ, ◌≡◌, ◌<◌, length, map}
use Rattle.list_pool.specs.Pool.{list_at}
use Rattle.near_lists.specs.Owners.{ends_of, owners_below}
use Rattle.near_lists.proofs.pairs.put_pairs.Given as goal

abbrev pub invariant-loop-place : goal.invariant-loop-place
invariant-loop-place l = record {
  as_many : length l.filling.lists ≡ length l.fn.filling.lists;
  starts : l.filling.starts ≡ l.fn.filling.starts;
  lists : (n : ℕ) → n < length l.fn.filling.lists → list_at l.filling.lists n ≡ owners_below (map ends_of l.pairs) n l.place;
}
