use Rattle.std.proofs.Common.{◌≡◌, ◌≤◌, ◌-◌, ◌++◌, length, map, take}
use Rattle.term_list.specs.Packed.{moved_by}
use Rattle.term_list.proofs.terms.push_moved.Given as goal

abbrev pub invariant-loop-at : goal.invariant-loop-at
invariant-loop-at l = (l.at ≤ length l.more) × (l.spans.items ≡ l.fn.spans.items ++ map (moved_by l.by) (take l.at l.more))

abbrev pub decreases-loop-at : goal.decreases-loop-at
decreases-loop-at l = length l.more - l.at
