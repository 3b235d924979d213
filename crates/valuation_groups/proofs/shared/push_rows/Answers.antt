use Rattle.std.proofs.Common.{List, ℕ, [], ap, sym, ◌∙◌, get_or, length, arith}
use Rattle.chase_laws.specs.Signature.{SignatureParts}
use Rattle.valuation_groups.specs.Rows.{KeyRows}
use Rattle.valuation_groups.proofs.SharedLemmas.{rows_more}
use Rattle.valuation_groups.proofs.shared.push_rows.Goals as goal

pub push-requires-clause-values : goal.push-requires-clause-values
push-requires-clause-values c =
    let none : SignatureParts = record { key = 0; name = 0; values = []; images = [] } in
    let number : ℕ = get_or c.args.numbers.now c.loop-number.number-index 0 in
    let is = c.requires.shape number none (c.requires.numbers c.loop-number.number-index 0 (omega arith)) in
    ap (λ (vs : List ℕ). length vs) c.values.ensures ∙ is.values ∙ sym c.requires.values ∙ sym (ap (λ (v : KeyRows). v.value_count) c.loop-number.invariant)

pub push-requires-clause-images : goal.push-requires-clause-images
push-requires-clause-images c =
    let none : SignatureParts = record { key = 0; name = 0; values = []; images = [] } in
    let number : ℕ = get_or c.args.numbers.now c.loop-number.number-index 0 in
    let is = c.requires.shape number none (c.requires.numbers c.loop-number.number-index 0 (omega arith)) in
    ap (λ (vs : List ℕ). length vs) c.images.ensures ∙ is.images ∙ sym c.requires.images ∙ sym (ap (λ (v : KeyRows). v.image_count) c.loop-number.invariant)

pub loop-number-preserved : goal.loop-number-preserved
loop-number-preserved c =
    let none : SignatureParts = record { key = 0; name = 0; values = []; images = [] } in
    let number : ℕ = get_or c.args.numbers.now c.loop-number.number-index 0 in
    let is = c.requires.shape number none (c.requires.numbers c.loop-number.number-index 0 (omega arith)) in
    rows_more c.args.kept.now c.loop-number.kept c.push.new.self c.args.rows.now.parts c.args.numbers.now c.loop-number.number-index c.name.result c.values.result.now c.images.result.now
    (omega arith) (is.key ∙ sym c.requires.key) c.loop-number.invariant c.in_ok-push.ensures.ok c.name.ensures c.values.ensures c.images.ensures
