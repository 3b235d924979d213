use Rattle.pair_seed.proofs.share.share_value.Goals as goal

pub returns-then-of_a-of_b : goal.returns-then-of_a-of_b
returns-then-of_a-of_b c = (
  (λ t. let s = c.has_common_literal.ensures.0 t in (s.0, s.1, (c.outgoing-of_a.ensures.exact s.0).0 s.2, (c.outgoing-of_b.ensures.exact s.0).0 s.3)),
  (λ s. c.has_common_literal.ensures.1 (s.0, s.1, (c.outgoing-of_a.ensures.exact s.0).1 s.2, (c.outgoing-of_b.ensures.exact s.0).1 s.3)),
)

pub returns-else-of_a-of_b : goal.returns-else-of_a-of_b
returns-else-of_a-of_b c = (
  (λ t. let s = c.has_common_literal-else-of_a-of_b.ensures.0 t in (s.0, s.1, (c.outgoing-of_a.ensures.exact s.0).0 s.3, (c.outgoing-of_b.ensures.exact s.0).0 s.2)),
  (λ s. c.has_common_literal-else-of_a-of_b.ensures.1 (s.0, s.1, (c.outgoing-of_b.ensures.exact s.0).1 s.3, (c.outgoing-of_a.ensures.exact s.0).1 s.2)),
)
