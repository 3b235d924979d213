-- What every graph over these names has beside its rows.
use Rattle.std.proofs.Common.{subst}
use Rattle.key_file.proofs.CallerLemmas.{folding_of}
use Rattle.graph_rows.specs.Numbered.{AreAlikeFor}
use Rattle.graph_rows.proofs.numbered_keys.number_keys.Goals as goal

pub returns-clause-alike : goal.returns-clause-alike
returns-clause-alike g c = subst (λ K. AreAlikeFor c.compile.new.names K c.in_ok-alike.alike.items) c.deref.ensures.value c.in_ok-alike.ensures.value

pub returns-clause-folding : goal.returns-clause-folding
returns-clause-folding g c rows =
    let a = c.in_ok-alike.ensures in
    folding_of c.compile.new.names rows c.in_ok-literal.literal.items c.in_ok-rdf_type.rdf_type c.in_ok-alike.alike.items
    c.in_ok-literal.ensures a.one_each a.not_above a.itself a.literals a.others
