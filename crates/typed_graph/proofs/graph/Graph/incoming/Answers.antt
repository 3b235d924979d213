use Rattle.std.proofs.Common.{List, ◌↔◌, Contains, subst, ℕ, All, [], ◌∷◌, ◌<◌, length, get_or, arith}
use Rattle.std.proofs.lemmas.List.Elements.{All-contains, Contains-get_or}
use Rattle.chase_laws.specs.Graph.{NumberedGraph, HasRow}
use Rattle.typed_graph.proofs.Order.{chain}
use Rattle.typed_graph.proofs.graph.Graph.incoming.Goals as goal

pub returns-clause-exact : goal.returns-clause-exact
returns-clause-exact c = λ m. subst (λ (G : NumberedGraph). Contains c.find.result.now m ↔ HasRow G m c.args.p c.args.n) c.self.view_is (chain _ _ _ (c.find.ensures.exact m) (c.self.invariant.backward c.args.n c.args.p m))

pub returns-clause-named : goal.returns-clause-named
returns-clause-named c = λ k d h.
    let m = get_or c.find.result.now k d in
    let row = (chain _ _ _ (c.find.ensures.exact m) (c.self.invariant.backward c.args.n c.args.p m)).0 (Contains-get_or c.find.result.now k d h) in
    subst (λ (G : NumberedGraph). m < length G.literal) c.self.view_is (All-contains (λ (r : List ℕ). All (λ n. n < length c.self.inside.literal.items) r) c.self.inside.rows.items (m ∷ c.args.p ∷ c.args.n ∷ []) c.self.invariant.graph row 0 0 (omega arith))
