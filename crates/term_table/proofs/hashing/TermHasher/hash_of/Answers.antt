use Rattle.std.proofs.Common.{ap, ◌∙◌, ◌/◌, ◌^◌}
use Rattle.std.specs.Hash.FoldHasher as folding
use Rattle.term_table.specs.Marks.{hash_of}
use Rattle.term_table.proofs.hashing.TermHasher.hash_of.Goals as goal

pub returns : goal.returns
unfolding hash_of
returns c =
    ap (λ n. n / 2 ^ 33) c.finish.ensures ∙ ap (λ s. folding.finish s / 2 ^ 33) c.write-2.ensures
    ∙ ap (λ s. folding.finish (folding.write s c.second.result.now) / 2 ^ 33) c.write.ensures
    ∙ (λ i. folding.finish (folding.write (folding.write c.args.self.now.start (c.first.ensures i)) (c.second.ensures i)) / 2 ^ 33)
