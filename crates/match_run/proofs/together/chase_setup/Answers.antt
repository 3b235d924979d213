use Rattle.std.proofs.Common.{All, Contains, subst}
use Rattle.std.specs.Prelude.{IfOk}
use Rattle.chase_core.specs.Setup.{Preparation}
use Rattle.chase_core.specs.declared.ticket.Matched.{Matched}
use Rattle.match_run.specs.Classes.{IsFinishedJournal, JoinsAsAll}
use Rattle.match_run.proofs.Finished.{if_ok_more, joins_as_all}
use Rattle.match_run.proofs.together.chase_setup.Goals as goal

pub returns-clause-ends : goal.returns-clause-ends
returns-clause-ends g c =
    subst (λ (S : Preparation). IfOk c.chase_on.result (λ m. All (λ e. Contains S.task.pairs (e.a, e.b)) m.journal.items)) c.in_ok-made.ensures.setup c.chase_on.ensures.ends

-- each finished journal joins what this one does
pub returns-clause-same_joined : goal.returns-clause-same_joined
returns-clause-same_joined g c =
    let G = c.args.setup.now.task.graph in
    let K = c.args.setup.now.task.patterns in
    if_ok_more (λ (m : Matched). IsFinishedJournal G K m.journal.items) (λ (m : Matched). JoinsAsAll G K m.journal.items) (λ m. joins_as_all c.law_confluence.ensures G K m.journal.items) c.chase_on.result
    (subst (λ (S : Preparation). IfOk c.chase_on.result (λ m. IsFinishedJournal S.task.graph S.task.patterns m.journal.items)) c.in_ok-made.ensures.setup c.chase_on.ensures.journal)
