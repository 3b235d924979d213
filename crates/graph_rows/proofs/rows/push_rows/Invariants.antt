use Rattle.std.proofs.Common.{◌++◌, ◌≡◌, ◌≤◌, ◌-◌, drop, length}
use Rattle.graph_rows.specs.Threes.{in_threes}
use Rattle.graph_rows.proofs.rows.push_rows.Given as goal

abbrev pub invariant-loop-at : goal.invariant-loop-at
invariant-loop-at l = (l.at ≤ length l.numbers) × (l.rows.items ++ in_threes (drop l.at l.numbers) ≡ l.fn.rows.items ++ in_threes l.numbers)

abbrev pub decreases-loop-at : goal.decreases-loop-at
decreases-loop-at l = length l.numbers - l.at
