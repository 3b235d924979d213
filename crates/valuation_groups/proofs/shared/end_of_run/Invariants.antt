use Rattle.std.proofs.Common.{ℕ, ◌<◌, ◌≤◌, ◌≡◌, ◌-◌, length, slice_index}
use Rattle.valuation_groups.specs.Rows.{part_at}
use Rattle.valuation_groups.proofs.shared.end_of_run.Given as goal

abbrev pub invariant-loop-end : goal.invariant-loop-end
invariant-loop-end l = record {
  after : l.from < l.end;
  within : l.end ≤ length l.order;
  same : (k : ℕ) → l.from ≤ k → k < l.end → (part_at l.rows.parts (slice_index l.order k)).values ≡ (part_at l.rows.parts (slice_index l.order l.from)).values;
}

abbrev pub decreases-loop-end : goal.decreases-loop-end
decreases-loop-end l = length l.order - l.end
