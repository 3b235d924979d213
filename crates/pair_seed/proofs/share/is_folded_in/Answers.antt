use Rattle.std.proofs.Common.{ℕ, IsTrue, ◌↔◌, subst}
use Rattle.typed_graph.proofs.CallerLemmas.{chain}
use Rattle.pair_seed.specs.Folds.{HasAlike}
use Rattle.pair_seed.proofs.share.is_folded_in.Goals as goal

pub returns-then-is_literal : goal.returns-then-is_literal
returns-then-is_literal c =
    let f = subst (λ (k : ℕ). IsTrue c.holds.result ↔ HasAlike c.args.graph.now c.args.b c.args.p k) c.alike.ensures.alike
    (chain _ _ _ c.holds.ensures (chain _ _ _ (c.find.ensures.exact c.args.b) (c.requires.folds c.alike.result c.args.p c.args.b))) in (
      (λ t. (c.is_literal.ensures.0 c.if-is_literal.true, f.0 t)),
      (λ s. f.1 s.1),
    )
