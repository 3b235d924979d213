-- A limit that pairs are not counted to is the largest number of 64 bits.
use Rattle.std.proofs.Common.{◌^◌, subst}
use Rattle.std.proofs.lemmas.Bool.{ltb-false}
use Rattle.pair_seed.specs.Pairs.{HasMoreCandidates}
use Rattle.chase_ways.proofs.Uncounted.{no_more_than_largest}
use Rattle.chase_ways.proofs.way.is_counted.Goals as goal

pub returns-clause-no_more : goal.returns-clause-no_more
returns-clause-no_more g c =
    let G = g.args.graph.now in
    let K = g.args.patterns.now in
    let largest = g.requires.limit (ltb-false g.args.limit (2 ^ 32) c) in
    λ more. no_more_than_largest G K g.names.ensures.graph g.names.ensures.few g.all_valid.ensures.facts (subst (HasMoreCandidates G K) largest more)
