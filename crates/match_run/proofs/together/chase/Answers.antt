-- The labels and the journal are those of a chase at its end.
use Rattle.std.proofs.Common.{◌∙◌}
use Rattle.match_run.proofs.Finished.{classes, journal, ends_are_pairs}
use Rattle.match_run.proofs.together.chase.Goals as goal

pub returns-clause-classes : goal.returns-clause-classes
returns-clause-classes g c =
    classes c.law_core.ensures.finished _ c.finish.ensures.running c.drain.ensures.finished c.args.crew.setup (c.drain.ensures.setup ∙ (c.recall.ensures.setup ∙ c.run_crew-running.ensures.setup)) c.finish.result.labels.items c.finish.ensures.labels

pub returns-clause-journal : goal.returns-clause-journal
returns-clause-journal g c =
    journal c.law_core.ensures.finished _ c.finish.ensures.running c.drain.ensures.finished c.args.crew.setup (c.drain.ensures.setup ∙ (c.recall.ensures.setup ∙ c.run_crew-running.ensures.setup)) c.finish.result.journal.items c.finish.ensures.journal

pub returns-clause-ends : goal.returns-clause-ends
returns-clause-ends g c =
    ends_are_pairs c.law_core.ensures.finished _ c.finish.ensures.running c.drain.ensures.finished c.args.crew.setup (c.drain.ensures.setup ∙ (c.recall.ensures.setup ∙ c.run_crew-running.ensures.setup)) c.finish.result.journal.items c.finish.ensures.journal
