use Rattle.std.proofs.Common.{sym, ◌∙◌, true≢false}
use Rattle.pair_seed.proofs.Keys.{designated_fits, designated_by}
use Rattle.pair_seed.proofs.share.designates.Goals as goal

pub returns-then-is_literal : goal.returns-then-is_literal
returns-then-is_literal c = (
  (λ t. absurd (true≢false (sym t))),
  (λ d. absurd ((designated_by c.args.graph.now c.args.pattern.now c.designated_type-t.result c.args.n c.designated_type-t.ensures d).0 (c.is_literal.ensures.0 c.if-is_literal.true))),
)

pub returns : goal.returns
returns c = (
  (λ t. designated_fits c.args.graph.now c.args.pattern.now c.designated_type-t.result c.args.n c.designated_type-t.ensures ((λ l. true≢false (sym (c.is_literal.ensures.1 l) ∙ c.if-is_literal.false)), c.has_type.ensures.0 t)),
  (λ d. c.has_type.ensures.1 (designated_by c.args.graph.now c.args.pattern.now c.designated_type-t.result c.args.n c.designated_type-t.ensures d).1),
)
