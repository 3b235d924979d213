-- Row by row.
use Rattle.std.proofs.Common.{◌++◌, ◌∙◌, sym, ap, append-nil}
use Rattle.graph_rows.proofs.RowsInNumbers.{in_threes-none}
use Rattle.graph_rows.proofs.rows.push_rows.Goals as goal

pub returns : goal.returns
returns c =
    sym (ap (λ l. c.loop-at.rows.items ++ l) (in_threes-none c.args.numbers.now c.loop-at.at c.loop-at-test.false) ∙ append-nil c.loop-at.rows.items)
    ∙ c.loop-at.invariant.1
