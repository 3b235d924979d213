-- What was derived over the first graph is derived over the whole one.
use Rattle.std.proofs.Common.{List, sym, subst}
use Rattle.chase_laws.specs.declared.entry.Entry.{Entry}
use Rattle.chase_laws.specs.Shape.{Shape}
use Rattle.chase_laws.specs.Chase.{IsDerivation}
use Rattle.grow_match.proofs.growing.grow.Goals as goal

pub second_chase-requires-clause-derivation : goal.second_chase-requires-clause-derivation
second_chase-requires-clause-derivation g c _ _ =
    let K = c.args.patterns.items in
    let H = c.in_ok-old.old.items in
    let whole : IsDerivation c.args.both K H = c.law_rows.ensures.derivation c.args.first c.args.both K c.requires.rows H c.in_ok-old.ensures.journal.derivation in
    subst (λ (J : List Entry). IsDerivation c.args.both c.in_ok-old.patterns.items J) (sym c.deref.ensures.value)
    (subst (λ (P : List Shape). IsDerivation c.args.both P H) (sym c.in_ok-old.ensures.patterns) whole)
