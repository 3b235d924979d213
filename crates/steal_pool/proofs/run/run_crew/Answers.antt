use Rattle.std.proofs.Common.{rules, Some, List, All, length, ◌≡◌, ◌++◌, ◌∙◌, ap, sym, subst, append_assoc}
use Rattle.std.proofs.lemmas.List.{take_at}
use Rattle.std.proofs.lemmas.List.Elements.{All-pop, All-push}
use Rattle.turn_lock.specs.declared.handles.Pass.{Pass}
use Rattle.turn_lock.specs.Handles.{IsPassOf, IsOut}
use Rattle.chase_laws.specs.declared.entry.Entry.{Entry}
use Rattle.steal_pool.specs.Crews.{CrewContents}
use Rattle.label_board.specs.Seen.{SeenBoard}
use Rattle.steal_pool.specs.Bases.{Base, pair_count, widest_of, board_of}
use Rattle.steal_pool.specs.CrewMembers.{IsCrewMember}
use Rattle.steal_pool.specs.Workspaces.{Thief}
use Rattle.steal_pool.specs.declared.shared.Shared.{Shared}
use Rattle.steal_pool.specs.declared.crew_member.CrewMember.{CrewMember}
use Rattle.steal_pool.proofs.run.run_crew.Goals as goal

pub loop-member-preserved : goal.loop-member-preserved
loop-member-preserved g c =
    let v = c.loop-member.invariant in
    let lock = c.crew.inside.lock in
    let H : CrewMember Shared Base Entry → Type 0 = IsCrewMember pair_count widest_of board_of lock v.members.0 c.crew.inside.thieves.items in
    let Q : Pass Shared Base Entry → Type 0 = λ p. IsPassOf lock p × IsOut p in
    let hs = All-pop H c.loop-member.members.items c.pop.new.self.items (Some c.in-Some.member) c.in-Some.ensures.items v.members.1 in
    record {
      count = search rules;
      room = search rules;
      members = (v.members.0, hs.0);
      back = rw c.push_reserved.ensures.items (All-push Q c.loop-member.home.items c.in-Some.member.pass v.back (hs.1.pass, hs.1.out));
    }

pub loop-member-init : goal.loop-member-init
loop-member-init g c =
    let on : SeenBoard = c.crew.inside.board in
    let members = c.work_all.new.members in
    let long : length members ≡ c.crew.inside.members.len = search rules in
    let R : List Thief → List (CrewMember Shared Base Entry) → Type 0 = λ ts ms. All (IsCrewMember pair_count widest_of board_of c.crew.inside.lock on ts) ms in
    let each : R c.crew.inside.thieves.items members = subst (λ ts. R ts members) c.as_slice.ensures.value c.work_all.ensures in
    record {
      count = search rules;
      room = search rules;
      members = (on, subst (R c.crew.inside.thieves.items) (sym (take_at members _ c.crew.inside.members.len long)) each);
      back = search rules;
    }

longer : (crew opened mid last : List Entry) → opened ≡ crew → (a : List Entry) × (mid ≡ opened ++ a) → (b : List Entry) × (last ≡ mid ++ b) → (x : List Entry) × (last ≡ crew ++ x)
longer crew opened mid last e a b = (a.0 ++ b.0, b.1 ∙ ap (λ xs. xs ++ b.0) a.1 ∙ append_assoc opened a.0 b.0 ∙ ap (λ xs. xs ++ (a.0 ++ b.0)) e)

pub returns-in-Some-last-clause-grows : goal.returns-in-Some-last-clause-grows
returns-in-Some-last-clause-grows g c =
    longer c.args.crew.journal _ _ c.work_alone.result.book.journal (ap (λ (C : CrewContents). C.journal) c.crew.view_is) c.close-chase.ensures.grown c.work_alone.ensures.grows
