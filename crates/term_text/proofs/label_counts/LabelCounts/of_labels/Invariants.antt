use Rattle.std.proofs.Common.{◌≡◌, ℕ, eqb, min, take}
use Rattle.std.specs.List.{count_by}
use Rattle.term_text.specs.Labels.{label_count}
use Rattle.term_text.proofs.label_counts.LabelCounts.of_labels.Given as goal

abbrev pub invariant-loop-label : goal.invariant-loop-label
invariant-loop-label l = (label : ℕ) → label_count l.counts label ≡ min 2 (count_by (λ x. eqb label x) (take l.label-index l.labels))
