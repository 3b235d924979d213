-- The run of all names.
use Rattle.std.proofs.Common.{arith}
use Rattle.pair_seed.proofs.Whole.{exact, named, no_more}
use Rattle.pair_seed.proofs.candidates.seed.Goals as goal

pub returns-clause-pairs : goal.returns-clause-pairs
returns-clause-pairs c = exact c.args.graph.now c.args.patterns.now c.names.ensures.graph c.all_valid.ensures.facts c.names.result c.in_ok-pairs.pairs.items c.in_ok-pairs.ensures.pairs (omega (arith, c.names.ensures.names))

pub returns-clause-ascending : goal.returns-clause-ascending
returns-clause-ascending c = c.in_ok-pairs.ensures.pairs.ascending

pub returns-clause-able : goal.returns-clause-able
returns-clause-able c = λ a b able. (exact c.args.graph.now c.args.patterns.now c.names.ensures.graph c.all_valid.ensures.facts c.names.result c.in_ok-pairs.pairs.items c.in_ok-pairs.ensures.pairs (omega (arith, c.names.ensures.names)) a b).1 (c.law_able.ensures c.args.graph.now c.args.patterns.now a b able)

pub returns-clause-named : goal.returns-clause-named
returns-clause-named c = named c.args.graph.now c.args.patterns.now c.names.ensures.graph c.all_valid.ensures.facts c.names.result c.in_ok-pairs.pairs.items c.in_ok-pairs.ensures.pairs (omega (arith, c.names.ensures.names))

pub returns-clause-no_more : goal.returns-clause-no_more
returns-clause-no_more c = no_more c.args.graph.now c.args.patterns.now c.names.ensures.graph c.all_valid.ensures.facts c.names.result c.in_ok-pairs.pairs.items c.in_ok-pairs.ensures.pairs (omega (arith, c.names.ensures.names)) c.args.limit c.in_ok-pairs.ensures.few
