use Rattle.std.proofs.Common.{map, ap, ◌∙◌}
use Rattle.term_table.specs.Numbering.{place_of, with_terms}
use Rattle.proof_file.specs.Steps.{term_at}
use Rattle.proof_file.specs.Tells.{supported_slots}
use Rattle.proof_graph.specs.Built.{built_support}
use Rattle.proof_file.proofs.CallerLemmas.{left_stays}
use Rattle.proof_graph.proofs.build.step.Goals as goal

pub returns-clause-step : goal.returns-clause-step
returns-clause-step c =
    let f = term_at c.args.names.now in
    let e = c.args.entry.now in
    let first = c.args.numbers.now.terms in
    let terms = c.numbers.new.self.terms in
    let later = c.numbers-2.new.self.terms in
    let left_is = c.deref.ensures.value ∙ c.in_ok-listed.ensures in
    let right_is = c.deref-2.ensures.value ∙ c.in_ok-listed-2.ensures in
    let grown = c.in_ok-left.ensures.terms ∙ ap (λ side. with_terms first (map f side)) left_is in
    let grown_more = c.in_ok-right.ensures.terms ∙ ap (λ side. with_terms terms (map f side)) right_is in
    let left = c.in_ok-left.ensures.numbers ∙ ap (λ side. map (place_of terms) (map f side)) left_is ∙ left_stays first terms later (map f e.left) (map f e.right) grown grown_more in
    let right = c.in_ok-right.ensures.numbers ∙ ap (λ side. map (place_of later) (map f side)) right_is in
    let supports = c.in_ok-supports.ensures ∙ ap (λ slots. map (built_support c.args.ways.now e) (supported_slots slots)) c.slots-slots.ensures.slots in
    let key = c.in_ok-copy.ensures in
    λ i. record { key = key i; left = left i; right = right i; supports = supports i }
