-- What was derived over the first graph is derived over the whole.
use Rattle.std.proofs.Common.{sym, subst}
use Rattle.chase_laws.specs.Chase.{IsDerivation}
use Rattle.chase_ways.proofs.growth.grow_signatures.Goals as goal

pub by_signatures-requires-2-clause-derivation : goal.by_signatures-requires-2-clause-derivation
by_signatures-requires-2-clause-derivation g c κs within =
    let G = c.args.first.now in
    let F = c.args.both.now in
    let K = c.args.patterns.now in
    let old = c.in-Some.field-0.journal.items in
    let first = rw c.in-Some.is at c.in_ok-before.ensures.journal in
    let whole = c.law_rows.ensures.derivation G F K c.requires old first.derivation in
    subst (IsDerivation F K) (sym c.deref.ensures.value) whole
