use Rattle.std.proofs.Common.{ap, ◌∙◌, ◌/◌}
use Rattle.term_list.proofs.TripleLemmas.{count_of}
use Rattle.term_list.proofs.triples.Triples.len.Goals as goal

pub returns : goal.returns
returns c = ap (λ n. n / 3) c.len.ensures ∙ count_of c.self.inside.terms c.args.self.now c.self.invariant c.self.view_is
