use Rattle.std.proofs.Common.{◌≡◌, ◌+◌, ◌-◌, length}
use Rattle.paired_search.specs.Both.{IsWalkedTo}
use Rattle.chase_core.proofs.Showing.{ArePresent}
use Rattle.chase_core.proofs.show.show_both.Given as goal

abbrev pub invariant-loop-i : goal.invariant-loop-i
invariant-loop-i l = record {
  walked : IsWalkedTo l.first l.i l.second l.j l.view.pairs;
  present : ArePresent l.book.labels l.view.pairs;
  room : l.view.room ≡ l.fn.view.room;
}

abbrev pub decreases-loop-i : goal.decreases-loop-i
decreases-loop-i l = (length l.first - l.i) + (length l.second - l.j)
