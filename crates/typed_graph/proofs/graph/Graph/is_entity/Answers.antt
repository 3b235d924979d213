use Rattle.std.proofs.Common.{ℕ, ◌↔◌, refl, sym, ◌∙◌, subst, true≢false}
use Rattle.chase_laws.specs.Graph.{NumberedGraph, HasRow}
use Rattle.typed_graph.specs.Table.{TableHas}
use Rattle.typed_graph.proofs.Ends.{first_end, last_end, no_end}
use Rattle.typed_graph.proofs.graph.Graph.is_entity.Goals as goal

pub returns-then-begins : goal.returns-then-begins
returns-then-begins c =
    let G = c.args.self.now in
    let forward = λ (p m : ℕ). subst (λ (F : NumberedGraph). TableHas c.self.inside.forward c.args.n p m ↔ HasRow F c.args.n p m) c.self.view_is (c.self.invariant.forward c.args.n p m) in (
      (λ t. ((λ l. true≢false (sym (c.is_literal.ensures.1 l) ∙ c.if-is_literal.false)), first_end G c.self.inside.forward c.args.n forward (c.begins.ensures.0 c.if-begins.true))),
      (λ h. refl),
    )

pub returns : goal.returns
returns c =
    let G = c.args.self.now in
    let forward = λ (p m : ℕ). subst (λ (F : NumberedGraph). TableHas c.self.inside.forward c.args.n p m ↔ HasRow F c.args.n p m) c.self.view_is (c.self.invariant.forward c.args.n p m) in
    let backward = λ (p m : ℕ). subst (λ (F : NumberedGraph). TableHas c.self.inside.backward c.args.n p m ↔ HasRow F m p c.args.n) c.self.view_is (c.self.invariant.backward c.args.n p m) in (
      (λ t. ((λ l. true≢false (sym (c.is_literal.ensures.1 l) ∙ c.if-is_literal.false)), last_end G c.self.inside.backward c.args.n backward (c.begins-2.ensures.0 t))),
      (λ h. c.begins-2.ensures.1 (no_end G c.self.inside.forward c.self.inside.backward c.args.n forward backward (λ x. true≢false (sym (c.begins.ensures.1 x) ∙ c.if-begins.false)) h.1)),
    )
