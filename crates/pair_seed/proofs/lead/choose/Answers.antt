use Rattle.pair_seed.proofs.Keys.{lead_serves}
use Rattle.pair_seed.proofs.lead.choose.Goals as goal

pub count-names-requires : goal.count-names-requires
count-names-requires c = lead_serves c.args.graph.now c.args.pattern.now c.in-Some.lead c.in-Some.ensures c.args.folds.now c.requires
