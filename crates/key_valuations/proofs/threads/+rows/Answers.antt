-- The rows of both runs, joined.
use Rattle.key_valuations.proofs.RunLaws.{same_counts, rows_both}
use Rattle.key_valuations.proofs.threads.+rows.Goals as goal

pub append-requires-clause-values : goal.append-requires-clause-values
append-requires-clause-values g t c =
    let low = rw c.in_ok-rows.was at c.join-low.ensures.first in
    let high = rw c.in_ok-high.was at c.join-low.ensures.second in
    (same_counts c.args.search.now.pattern.now _ _ _ _ c.args.search.now.graph.now high.counts low.counts).0

pub append-requires-clause-images : goal.append-requires-clause-images
append-requires-clause-images g t c =
    let low = rw c.in_ok-rows.was at c.join-low.ensures.first in
    let high = rw c.in_ok-high.was at c.join-low.ensures.second in
    (same_counts c.args.search.now.pattern.now _ _ _ _ c.args.search.now.graph.now high.counts low.counts).1

pub returns : goal.returns
returns g t c =
    let low = rw c.in_ok-rows.was at c.join-low.ensures.first in
    let high = rw c.in_ok-high.was at c.join-low.ensures.second in
    rows_both c.args.search.now c.args.leads.now c.args.from _ c.args.to c.in_ok-rows.rows c.in_ok-high.field-0 c.append.new.self low high c.in_ok-append.ensures.ok
