-- Each member is one of the crew.
use Rattle.std.proofs.Common.{rules, List, All, subst}
use Rattle.steal_pool.specs.Bases.{pair_count, widest_of, board_of}
use Rattle.steal_pool.specs.CrewMembers.{IsCrewMember}
use Rattle.steal_pool.specs.Workspaces.{Thief}
use Rattle.steal_pool.proofs.crew.assemble.Goals as goal

pub invariant_of-result : goal.invariant_of-result
invariant_of-result c = record {
  some_seat = search rules;
  few = search rules;
  seats = search rules;
  empty = search rules;
  room = search rules;
  each = subst (λ (ts : List Thief). All (IsCrewMember pair_count widest_of board_of c.args.lock c.args.board ts) c.members_of.new.members.items) c.as_slice.ensures.value c.members_of.ensures.members;
}
