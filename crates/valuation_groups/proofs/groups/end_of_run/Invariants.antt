use Rattle.std.proofs.Common.{ℕ, ◌<◌, ◌≤◌, ◌≡◌, ◌-◌, length}
use Rattle.valuation_groups.specs.Rows.{part_at}
use Rattle.valuation_groups.proofs.groups.end_of_run.Given as goal

abbrev pub invariant-loop-end : goal.invariant-loop-end
invariant-loop-end l = record {
  after : l.from < l.end;
  within : l.end ≤ length l.rows.parts;
  same : (k : ℕ) → l.from ≤ k → k < l.end → (part_at l.rows.parts k).values ≡ (part_at l.rows.parts l.from).values;
}

abbrev pub decreases-loop-end : goal.decreases-loop-end
decreases-loop-end l = length l.rows.parts - l.end
