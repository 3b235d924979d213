use Rattle.std.proofs.Common.{◌≡◌, replicate}
use Rattle.signature_chase.specs.Leaders.{AreLeaders}
use Rattle.signature_chase.proofs.leaders.find_leaders.Given as goal

abbrev pub invariant-loop-row : goal.invariant-loop-row
invariant-loop-row l = l.leaders.items ≡ replicate l.row 0

abbrev pub invariant-loop-place : goal.invariant-loop-place
invariant-loop-place l = AreLeaders l.book.labels l.group l.place l.leaders.items
