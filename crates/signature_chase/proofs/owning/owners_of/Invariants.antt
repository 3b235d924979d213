use Rattle.std.proofs.Common.{ℕ, Contains, drop, length, ◌<◌, ◌≡◌}
use Rattle.list_pool.specs.Pool.{list_at}
use Rattle.valuation_groups.specs.Groups.{group_at, row_in}
use Rattle.signature_chase.specs.Setting.{HasRowAt}
use Rattle.signature_chase.proofs.owning.owners_of.Given as goal

abbrev pub invariant-loop-place : goal.invariant-loop-place
invariant-loop-place l = record {
  one_each : length l.owners ≡ l.names;
  every : (g i m : ℕ) → g < l.place → HasRowAt l.groups g i → Contains (drop 1 (row_in (group_at l.groups g) i)) m → Contains (list_at l.owners m) g;
  only : (m g : ℕ) → Contains (list_at l.owners m) g → g < l.place;
}
