-- Where each name has itself for its label, two that differ are not the same.
use Rattle.std.proofs.Common.{◌≡◌, false, subst}
use Rattle.chase_laws.specs.View.{same_by}
use Rattle.paired_search.specs.Held.{Held}
use Rattle.paired_search.proofs.Labels.{own_apart}
use Rattle.paired_search.proofs.view.View.same.Goals as goal

pub returns-then-self : goal.returns-then-self
returns-then-self c =
    subst (λ (v : Held). false ≡ same_by v.pairs c.args.m c.args.n) c.self.view_is
    (own_apart c.self.inside.pairs.items c.args.m c.args.n (c.self.invariant.labels c.if-self.true) c.if-m-n.false)
