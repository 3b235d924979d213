-- What is the same by the view of a pair that was taken is joined.
use Rattle.std.proofs.Common.{subst}
use Rattle.chase_laws.specs.Joined.{Joined}
use Rattle.chase_laws.specs.Core.{ListsNear}
use Rattle.chase_core.specs.Setup.{Preparation}
use Rattle.chase_core.specs.Running.{Running, state_of}
use Rattle.chase_core.proofs.chase.Chase.take.Goals as goal

pub returns-clause-held : goal.returns-clause-held
returns-clause-held c =
    let T = c.self.inside.setup.now.task in
    let t = c.in_ok-ticket.ticket in
    let view = c.show_near.new.view.pairs in
    let near = c.show_near.ensures.near in
    let joined = c.law_core.ensures.shown T c.self.invariant.task (state_of c.self.inside.book c.self.inside.table) c.self.invariant.sound t.a t.b view near c.show_near.ensures.present in
    record {
      ends = c.in_ok-ticket.ensures.ends;
      near = subst (λ (S : Preparation). ListsNear S.task t.a t.b view) c.take_unseen.ensures.setup (subst (λ (C : Running). ListsNear C.setup.task t.a t.b view) c.self.view_is near);
      joined = λ m n s. subst (λ (C : Running). Joined C.book.journal m n) c.self.view_is (joined m n s);
    }
