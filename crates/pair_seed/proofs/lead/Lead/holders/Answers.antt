use Rattle.std.proofs.Common.{Bool, Contains, ◌↔◌, sym, subst}
use Rattle.pair_seed.specs.Folds.{Holds}
use Rattle.pair_seed.proofs.lead.Lead.holders.Goals as goal

pub returns-else-self-clause-exact : goal.returns-else-self-clause-exact
returns-else-self-clause-exact c = λ b. subst (λ (f : Bool). Contains c.incoming.result.now b ↔ Holds c.args.graph.now f b c.args.self.pred c.args.l) (sym c.if-self.false) (c.incoming.ensures.exact b)
