use Rattle.std.proofs.Common.{◌≡◌, ◌+◌, ◌≤◌, vec_len, vec_capacity}
use Rattle.std.specs.List.{All}
use Rattle.turn_lock.specs.Handles.{AllOut, seats_of}
use Rattle.label_board.specs.Seen.{SeenBoard}
use Rattle.steal_pool.specs.Bases.{pair_count, widest_of, board_of}
use Rattle.steal_pool.specs.CrewMembers.{IsCrewMember}
use Rattle.steal_pool.proofs.run.run_crew.Given as goal

abbrev pub invariant-loop-member : goal.invariant-loop-member
invariant-loop-member g l = record {
  count : vec_len l.members + vec_len l.home ≡ seats_of l.lock;
  room : seats_of l.lock ≤ vec_capacity l.home;
  members : (on : SeenBoard) × All (IsCrewMember pair_count widest_of board_of l.lock on l.thieves.items) l.members.items;
  back : AllOut l.lock l.home.items;
}

abbrev pub decreases-loop-member : goal.decreases-loop-member
decreases-loop-member g l = vec_len l.members
