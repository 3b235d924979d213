use Rattle.std.proofs.Common.{rules, refl, ◌≡◌, Option, Some, IfSome, subst}
use Rattle.std.proofs.lemmas.List.Elements.{All-pop, All-push}
use Rattle.turn_lock.specs.Handles.{IsPassOf, IsOut, base_of}
use Rattle.turn_lock.specs.declared.handles.Pass.{Pass}
use Rattle.chase_laws.specs.declared.entry.Entry.{Entry}
use Rattle.steal_pool.specs.declared.shared.Shared.{Shared}
use Rattle.steal_pool.specs.declared.crew_member.CrewMember.{CrewMember}
use Rattle.steal_pool.specs.declared.workspace.Workspace.{Workspace}
use Rattle.steal_pool.specs.Workspaces.{IsWorkspace}
use Rattle.steal_pool.specs.Bases.{Base, pair_count, widest_of, board_of}
use Rattle.steal_pool.specs.CrewMembers.{IsCrewMember}
use Rattle.steal_pool.proofs.crew.members_of.Goals as goal

pub loop-pass-preserved : goal.loop-pass-preserved
loop-pass-preserved c =
    let v = c.loop-pass.invariant in
    let B : Base = (v.parts.0, c.args.board.now) in
    let P : Pass Shared Base Entry → Type 0 = λ p. IsPassOf c.args.lock.now p × IsOut p × (base_of p ≡ Some B) in
    let Q : Workspace → Type 0 = IsWorkspace (pair_count B) (widest_of B) c.args.board.now c.args.thieves.now in
    let H : CrewMember Shared Base Entry → Type 0 = IsCrewMember pair_count widest_of board_of c.args.lock.now c.args.board.now c.args.thieves.now in
    let ps = All-pop P c.loop-pass.passes.items c.pop.new.self.items (Some c.in-Some.pass) c.in-Some.ensures.items v.parts.1 in
    let ws = All-pop Q c.loop-pass.workspaces.items c.pop-in-Some.new.self.items c.pop-in-Some.result c.pop-in-Some.ensures.items v.parts.2 in
    record {
      count = search rules;
      made = search rules;
      room = search rules;
      home = search rules;
      parts = (v.parts.0, ps.0, ws.0);
      members = rw c.push_reserved.ensures.items (All-push H c.loop-pass.members.items (record { pass = c.in-Some.pass; workspace = c.unwrap-workspace.result }) v.members
          (record { pass = ps.1.0; out = ps.1.1; base = B; based = ps.1.2; posts = refl; workspace = subst (λ (r : Option Workspace). IfSome r Q) c.unwrap-workspace.ensures ws.1 }));
    }
