-- The list of a name has its pairs.
use Rattle.std.proofs.Common.{Contains, ◌<◌, ◌↔◌, sym, subst}
use Rattle.chase_laws.specs.Core.{name_count}
use Rattle.near_lists.specs.Turning.{HasEnd}
use Rattle.chase_core.specs.Kept.{preparation_of}
use Rattle.chase_core.specs.Setup.{Preparation}
use Rattle.chase_core.proofs.setup.Setup.pairs_of.Goals as goal

pub returns-clause-exact : goal.returns-clause-exact
returns-clause-exact c = λ p.
    let within = subst (λ (S : Preparation). c.args.e < name_count S.task) (sym c.self.view_is) c.requires in
    subst (λ (S : Preparation). Contains c.of.result.now p ↔ HasEnd S.task.pairs p c.args.e) c.self.view_is
    (subst (λ xs. Contains xs p ↔ HasEnd (preparation_of c.self.inside).task.pairs p c.args.e) (sym c.of.ensures) (c.self.invariant.by_end.exact c.args.e p within))
