-- What is chosen from two halves, joined.
use Rattle.std.proofs.Common.{ℕ, ◌+◌, ◌-◌, ◌/◌, arith, get_or}
use Rattle.term_text.specs.CanonicalText.{texts_of}
use Rattle.term_text.specs.Labels.{is_shared_in}
use Rattle.term_text.specs.Members.{member_at}
use Rattle.term_text.proofs.Choosing.{chosen_join}
use Rattle.term_text.proofs.TextLemmas.{parts_of_both}
use Rattle.term_text.proofs.listing.+halves.Goals as goal

pub returns : goal.returns
returns g t c =
    let from = c.args.from in
    let middle : ℕ = from + (c.args.to - from) / 2 in
    let labels = c.args.labels.now in
    let low = rw c.in_ok-parts.was at c.join-low.ensures.first in
    let high = rw c.in_ok-rest.was at c.join-low.ensures.second in
    let joined = chosen_join (member_at (texts_of c.args.names.now) labels) (λ n. is_shared_in c.args.counts.now (get_or labels n 0)) from middle c.args.to (omega arith) (omega arith) in
    parts_of_both c.in_ok-parts.parts.items c.in_ok-rest.rest.items _ _ _ _ c.in_ok-append.ensures.items low high joined
