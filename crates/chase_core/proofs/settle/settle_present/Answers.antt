-- What the present labels let match is a step, and what they do not is missed.
use Rattle.chase_core.specs.Running.{state_of}
use Rattle.chase_core.specs.Settling.{entry_of}
use Rattle.chase_core.specs.Present.{same_by_labels}
use Rattle.chase_core.proofs.PresentView.{labels_join, missed_present, found_present}
use Rattle.chase_core.proofs.settle.settle_present.Goals as goal

pub settle_found-requires-clause-step : goal.settle_found-requires-clause-step
settle_found-requires-clause-step c =
    let T = c.args.setup.now.task in
    let book = c.args.book.now in
    let found = c.in-Some.ensures.found in
    c.law_core.ensures.found T.graph T.patterns book.journal (entry_of c.args.ticket c.in-Some.finding) found.0 (same_by_labels book.labels) found.1 found.2
    (labels_join (state_of book c.args.table.now) c.requires.sound.labels)

pub returns-in-Some-clause-settles : goal.returns-in-Some-clause-settles
returns-in-Some-clause-settles c =
    found_present c.args.setup.now c.prepared.ensures.task c.prepared.ensures.near c.args.book.now c.settle_found.new.book c.args.table.now c.settle_found.new.table c.requires.sound.one_label_each c.args.ticket c.requires.ends
    c.in-Some.finding c.settle_found.result c.settle_found.ensures.settles

pub returns-in-None-clause-settles : goal.returns-in-None-clause-settles
returns-in-None-clause-settles c =
    let book = c.args.book.now in
    missed_present c.args.setup.now c.prepared.ensures.task c.prepared.ensures.near book book c.args.table.now c.mark.new.self c.requires.sound.one_label_each c.args.ticket c.requires.ends
    c.requires.apart c.in-None.ensures.none c.mark.ensures.states c.mark.ensures.ready
