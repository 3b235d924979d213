use Rattle.std.proofs.Common.{List, ℕ, ap, min, eqb, ◌∙◌, arith}
use Rattle.std.proofs.lemmas.List.{take_all}
use Rattle.std.specs.List.{count_by}
use Rattle.term_text.proofs.label_counts.LabelCounts.of_labels.Goals as goal

pub returns : goal.returns
returns c = record { count = λ label. c.loop-label.invariant label ∙ ap (λ (labels : List ℕ). min 2 (count_by (λ x. eqb label x) labels)) (take_all c.loop-label.label-index c.args.labels.now (omega arith)) }
