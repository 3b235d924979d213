use Rattle.std.proofs.Common.{◌≡◌, Some, sym, subst, ap, ◌∙◌}
use Rattle.std.specs.List.{All}
use Rattle.steal_pool.specs.declared.shared.Shared.{Shared}
use Rattle.steal_pool.specs.Bases.{Base, base_with, board_over}
use Rattle.steal_pool.specs.Batches.{IsJob}
use Rattle.turn_lock.specs.Handles.{base_of, seen}
use Rattle.steal_pool.proofs.Jobs.{same_base, jobs_now, workspace_now, board_now}
use Rattle.steal_pool.proofs.turns.settle_and_take_in_turn.Goals as goal

pub settle_and_take-next-requires-clause-board : goal.settle_and_take-next-requires-clause-board
settle_and_take-next-requires-clause-board g c =
    let r = c.requires in
    let x = c.enter-turn.result.value in
    rw c.value-shared.ensures.value (board_now r.member.base (base_with x.chase.setup x.scribe.board) (base_of c.args.member.now.pass) c.args.board.now r.member.based c.enter-turn.ensures.right.based r.member.posts)

pub settle_and_take-next-requires-clause-jobs : goal.settle_and_take-next-requires-clause-jobs
settle_and_take-next-requires-clause-jobs g c =
    let r = c.requires in
    let v = c.enter-turn.ensures.right in
    let x = c.enter-turn.result.value in
    subst (λ (s : Shared). All (IsJob s.chase.setup.task s.chase.book.journal) c.args.member.now.workspace.jobs.items) (sym c.value-shared.ensures.value) (jobs_now r.member.base (base_with x.chase.setup x.scribe.board) (base_of c.args.member.now.pass) (seen c.args.member.now.pass) _ c.args.member.now.workspace.jobs.items
    r.member.based v.based v.begun (r.jobs r.member.base r.member.based))

pub settle_and_take-next-requires-clause-workspace : goal.settle_and_take-next-requires-clause-workspace
settle_and_take-next-requires-clause-workspace g c =
    let r = c.requires in
    let x = c.enter-turn.result.value in
    rw c.value-shared.ensures.value (workspace_now r.member.base (base_with x.chase.setup x.scribe.board) (base_of c.args.member.now.pass) c.args.board.now c.args.thieves.now c.args.member.now.workspace
    r.member.based c.enter-turn.ensures.right.based r.member.workspace)

pub returns-clause-at_work : goal.returns-clause-at_work
returns-clause-at_work g c =
    let r = c.requires in
    let v = c.enter-turn.result.value in
    let done = c.settle_and_take-next in
    let x = c.value-shared.result.now in
    let X : Base = base_with x.chase.setup x.scribe.board in
    let based : base_of c.leave.new.pass ≡ Some X = c.leave.ensures.same.1 ∙ c.enter-turn.ensures.same.1 ∙ c.enter-turn.ensures.right.based ∙ sym (ap (λ (s : Shared). Some (base_with s.chase.setup s.scribe.board)) c.value-shared.ensures.value) in
    record {
      member = record {
        pass = c.leave.ensures.pass;
        out = c.leave.ensures.out;
        base = X;
        based = based;
        posts = subst (λ (s : Shared). board_over s.chase.setup s.scribe.board ≡ c.args.board.now) (sym c.value-shared.ensures.value)
            (board_now r.member.base (base_with v.chase.setup v.scribe.board) (base_of c.args.member.now.pass) c.args.board.now r.member.based c.enter-turn.ensures.right.based r.member.posts);
        workspace = done.ensures.workspace;
      };
      jobs = λ B e. subst (λ (Z : Base). All (IsJob Z.0.task (seen c.leave.new.pass)) done.new.workspace.jobs.items) (same_base X B (sym based ∙ e)) (rw c.leave.ensures.seen.0 done.ensures.jobs);
    }
