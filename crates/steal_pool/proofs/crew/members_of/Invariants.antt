use Rattle.std.proofs.Common.{◌≡◌, ◌≤◌, ◌+◌, All, length, vec_len, vec_capacity}
use Rattle.chase_core.specs.Setup.{Preparation}
use Rattle.steal_pool.specs.Workspaces.{IsWorkspace}
use Rattle.steal_pool.specs.Bases.{pair_count, widest_of, board_of}
use Rattle.steal_pool.specs.CrewMembers.{IsCrewMember, AllOutWith}
use Rattle.steal_pool.proofs.crew.members_of.Given as goal

abbrev pub invariant-loop-pass : goal.invariant-loop-pass
invariant-loop-pass l = record {
  count : vec_len l.passes ≡ vec_len l.workspaces;
  made : vec_len l.members + vec_len l.passes ≡ vec_len l.fn.passes;
  room : vec_len l.fn.passes ≤ vec_capacity l.members;
  home : vec_capacity l.passes ≡ vec_capacity l.fn.passes;
  parts : (S : Preparation) × AllOutWith l.lock (S, l.board) l.passes.items × All (IsWorkspace (length S.task.pairs) S.widest l.board l.thieves) l.workspaces.items;
  members : All (IsCrewMember pair_count widest_of board_of l.lock l.board l.thieves) l.members.items;
}

abbrev pub decreases-loop-pass : goal.decreases-loop-pass
decreases-loop-pass l = vec_len l.passes
