-- The lines of two halves, joined.
use Rattle.term_text.proofs.LineSteps.{lines_joined}
use Rattle.term_text.proofs.lines.+halves.Goals as goal

pub returns : goal.returns
returns g t c =
    let members = c.args.members.now in
    let middle = c.halfway-middle.result in
    let low = rw c.in_ok-lines.was at c.join-low.ensures.first in
    let high = rw c.in_ok-rest.was at c.join-low.ensures.second in
    lines_joined members c.args.from middle c.args.to _ _ _ low high c.in_ok-append.ensures.items
