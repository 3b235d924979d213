use Rattle.std.proofs.Common.{◌∙◌, ap, take}
use Rattle.std.proofs.lemmas.List.{take_min}
use Rattle.pair_filter.proofs.runs.run_at.Goals as goal

pub returns : goal.returns
returns c = c.split_at-2.ensures.front ∙ ap (λ n. take n c.split_at.result.1.now) c.min.ensures
    ∙ take_min 1024 c.split_at.result.1.now ∙ ap (take 1024) c.split_at.ensures.back
