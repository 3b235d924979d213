-- The ends of an entry are a candidate pair.
use Rattle.std.proofs.Common.{get_or}
use Rattle.chase_laws.specs.declared.entry.Entry.{Entry}
use Rattle.grow_match.proofs.growing.first_chase.Goals as goal

pub returns-clause-below : goal.returns-clause-below
returns-clause-below g c = λ k d within.
    let e : Entry = get_or c.in_ok-journal.field-0.journal.items k d in
    let pair = (c.in_ok-setup.ensures.pairs e.a e.b).0 (c.in_ok-journal.ensures.ends k d within) in
    pair.0.below
