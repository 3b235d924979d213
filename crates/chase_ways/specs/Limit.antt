-- Which limits of candidate pairs are kept.
use Rattle.std.specs.Prelude.{ℕ, ◌≡◌, ◌≤◌, ◌-◌, ◌^◌}

-- A limit of candidate pairs that can be kept: one that pairs are counted to, or the largest number of 64 bits, which no graph
-- passes (this project's own).
abbrev pub CanBeKept : ℕ → Type 0
CanBeKept limit = 2 ^ 32 ≤ limit → limit ≡ 2 ^ 64 - 1
