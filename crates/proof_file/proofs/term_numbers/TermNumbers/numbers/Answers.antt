use Rattle.std.proofs.Common.{◌++◌, ◌∷◌, [], get_or, sym, ap, ap₂, ◌∙◌}
use Rattle.term_table.specs.Numbering.{with_term}
use Rattle.proof_file.specs.Steps.{term_at}
use Rattle.proof_file.proofs.InNumbers.{side_terms, side_numbers}
use Rattle.proof_file.proofs.term_numbers.TermNumbers.numbers.Goals as goal

pub loop-name-preserved : goal.loop-name-preserved
loop-name-preserved c =
    let names = c.args.names.now in
    let side = c.args.side.now in
    let i = c.loop-name.name-index in
    let l = c.loop-name-test.true in
    let before = c.loop-name.invariant in
    let first = c.args.self.now.terms in
    let t = term_at names (get_or side i 0) in
    record {
      terms = c.in_ok-number.ensures.terms ∙ ap (λ ts. with_term ts t) before.terms ∙ sym (side_terms names first side i l);
      numbers = c.in_ok-push.ensures.items ∙ ap₂ (λ ns n. ns ++ n ∷ []) before.numbers c.in_ok-number.ensures.number
          ∙ sym (side_numbers names first c.loop-name.self.terms c.number.new.self.terms side i l before.terms c.in_ok-number.ensures.terms);
      places = c.in_ok-number.ensures.places;
    }
