-- One name more.
use Rattle.std.proofs.Common.{ℕ, Contains, ◌∙◌, inl, inr, sym, subst, true≢false, take_all}
use Rattle.chase_laws.specs.Graph.{IsLiteral}
use Rattle.pair_filter.proofs.Steps.{contains_more}
use Rattle.pair_filter.proofs.leaf.has_literal_among.Goals as goal

pub loop-l-preserved-then-not-holds : goal.loop-l-preserved-then-not-holds
loop-l-preserved-then-not-holds c = λ x at there literal. elim (contains_more c.args.us.now c.loop-l.l-index x c.loop-l-test.true at) [
  | inl old ↦ c.loop-l.invariant x old there literal
  | inr same ↦ true≢false (sym (c.holds.ensures.1 (subst (λ (n : ℕ). Contains c.args.ws.now n) (sym same) there)) ∙ c.if-not-holds.true)
]

pub loop-l-preserved : goal.loop-l-preserved
loop-l-preserved c = λ x at there literal. elim (contains_more c.args.us.now c.loop-l.l-index x c.loop-l-test.true at) [
  | inl old ↦ c.loop-l.invariant x old there literal
  | inr same ↦ true≢false (sym (c.is_literal.ensures.1 (subst (λ (n : ℕ). IsLiteral c.args.graph.now n) (sym same) literal)) ∙ c.if-is_literal.false)
]

pub returns : goal.returns
returns c = (
  (λ f. absurd (true≢false (sym f))),
  (λ h. absurd (c.loop-l.invariant h.0 (rw (take_all c.loop-l.l-index c.args.us.now c.loop-l-test.false) h.1) h.2 h.3)),
)
