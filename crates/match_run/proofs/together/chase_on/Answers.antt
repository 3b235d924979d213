use Rattle.std.proofs.Common.{List, All, Contains, subst, ◌++◌, ◌≡◌}
use Rattle.chase_laws.specs.declared.entry.Entry.{Entry}
use Rattle.chase_core.specs.Setup.{Preparation}
use Rattle.match_run.specs.Classes.{IsFinishedJournal}
use Rattle.match_run.proofs.Finished.{steps_joined}
use Rattle.match_run.proofs.together.chase_on.Goals as goal

pub returns-clause-ends : goal.returns-clause-ends
returns-clause-ends g c =
    subst (λ (S : Preparation). All (λ e. Contains S.task.pairs (e.a, e.b)) c.chase.result.journal.items)
    c.in_ok-crew.ensures.setup c.chase.ensures.ends

-- what could be joined at the beginning can be at the end, where no step goes further
pub returns-clause-steps : goal.returns-clause-steps
returns-clause-steps g c =
    let J = c.chase.result.journal.items in
    steps_joined c.law_step_grows.ensures c.law_joined.ensures.grows c.args.made.setup.task.graph c.args.made.setup.task.patterns c.args.made.book.journal J
    (subst (λ H. (more : List Entry) × (J ≡ H ++ more)) c.in_ok-crew.ensures.journal c.chase.ensures.begins)
    (subst (λ (S : Preparation). IsFinishedJournal S.task.graph S.task.patterns J) c.in_ok-crew.ensures.setup c.chase.ensures.journal)
