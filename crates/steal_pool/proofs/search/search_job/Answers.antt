use Rattle.std.proofs.Common.{List, sym, subst}
use Rattle.chase_laws.specs.declared.entry.Entry.{Entry}
use Rattle.steal_pool.specs.declared.workspace.Progress.{Progress}
use Rattle.steal_pool.specs.declared.workspace.Progress.TheVariants as progress
use Rattle.steal_pool.specs.Bases.{IsSince}
use Rattle.steal_pool.specs.Batches.{IsCarried}
use Rattle.steal_pool.proofs.search.search_job.Goals as goal

pub returns-in-Taken-clause-job : goal.returns-in-Taken-clause-job
returns-in-Taken-clause-job c =
    let T = c.args.setup.now.task in
    let job = c.args.job.now in
    λ seen h.
    let was : IsCarried T seen job (progress.Taken c.in-Taken.ticket) = subst (λ (w : Progress). IsCarried T seen job w) c.in-Taken.is h in
    c.search_view.ensures.job seen (subst (λ (es : List Entry). IsSince seen es job.since) (sym c.look.ensures.since) was.1)
