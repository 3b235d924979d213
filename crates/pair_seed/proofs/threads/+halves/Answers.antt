-- Two runs, joined.
use Rattle.std.proofs.Common.{refl, arith}
use Rattle.pair_seed.proofs.InOrder.{both_runs, too_many}
use Rattle.pair_seed.proofs.threads.+halves.Goals as goal

pub returns-then-len-limit-clause-stop : goal.returns-then-len-limit-clause-stop
returns-then-len-limit-clause-stop g t c =
    let low = rw c.in_ok-pairs.was at c.join-low.ensures.first in
    let high = rw c.in_ok-above.was at c.join-low.ensures.second in
    let lens = c.in_ok-pairs.pairs.ok.0 in
    let lens' = c.in_ok-above.above.ok.0 in
    (refl, too_many c.args.graph.now c.args.patterns.now c.args.from _ c.args.to c.in_ok-pairs.pairs.items c.in_ok-above.above.items low.0.0 high.0.0 c.args.limit (omega arith))

pub returns-clause-pairs : goal.returns-clause-pairs
returns-clause-pairs g t c =
    let low = rw c.in_ok-pairs.was at c.join-low.ensures.first in
    let high = rw c.in_ok-above.was at c.join-low.ensures.second in
    both_runs c.args.graph.now c.args.patterns.now c.args.from _ c.args.to c.in_ok-pairs.pairs.items c.in_ok-above.above.items low.0.0 high.0.0 c.append.new.self.items c.in_ok-append.ensures.items (omega arith) (omega arith)
