use Rattle.steal_pool.proofs.batch.take_next.Goals as goal

pub returns-then-lone-clause-workspace : goal.returns-then-lone-clause-workspace
returns-then-lone-clause-workspace c = c.rest.ensures.workspace _ _ c.args.board.now c.args.thieves.now c.requires.workspace

pub returns-then-alone-clause-workspace : goal.returns-then-alone-clause-workspace
returns-then-alone-clause-workspace c = c.rest-then-alone.ensures.workspace _ _ c.args.board.now c.args.thieves.now c.requires.workspace
