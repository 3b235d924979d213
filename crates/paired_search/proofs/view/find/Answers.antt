-- The name stands at its own place, or behind those below it, or not there.
use Rattle.std.proofs.Common.{ℕ, ◌∙◌, ap, arith}
use Rattle.std.proofs.lemmas.List.{get_or_default}
use Rattle.paired_search.proofs.Labels.{label_here, label_missing}
use Rattle.paired_search.proofs.view.find.Goals as goal
use Rattle.paired_search.proofs.view.find.Goals.{else-place-pairs-via-then-place-pairs+else-pairs-place, else-place-pairs-via-else-place-pairs}

pub returns-then-pairs-own : goal.returns-then-pairs-own
returns-then-pairs-own c = label_here c.args.pairs.now c.args.node c.args.node (0, 0) c.requires c.if-own-pairs.true c.if-pairs-own.true

pub returns-then-pairs-place : goal.returns-then-pairs-place
returns-then-pairs-place c = label_here c.args.pairs.now c.count_below-place.result c.args.node (0, 0) c.requires c.if-place-pairs.true c.if-pairs-place.true

pub returns : goal.returns
returns c =
    let pairs = c.args.pairs.now in
    let count = c.count_below-place.result in
    label_missing pairs c.args.node count c.requires c.count_below-place.ensures (λ l d same. elim c.else-place-pairs.branch [
      | else-place-pairs-via-then-place-pairs+else-pairs-place w ↦ w.if-pairs-place.false (ap (λ (p : ℕ × ℕ). p.0) (get_or_default pairs count (0, 0) d l) ∙ same)
      | else-place-pairs-via-else-place-pairs w ↦ (let past = w.if-place-pairs.false in omega arith)
    ])
