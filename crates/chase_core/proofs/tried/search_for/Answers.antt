-- A key that is not searched does not identify the pair.
use Rattle.std.proofs.Common.{Option, Some, None, inl, inr}
use Rattle.std.specs.Prelude.{IfNone}
use Rattle.paired_search.proofs.CallerLemmas.{within_or_outside}
use Rattle.chase_core.proofs.tried.search_for.Goals as goal

none_then : {T : Type 0} (o : Option T) (P R : Type 0) → (P → R) → IfNone o P → IfNone o R
none_then None P R f h = f h
none_then (Some x) P R f h = tt

pub returns-clause-none : goal.returns-clause-none
returns-clause-none g c =
    let none = rw (c.graph.ensures.graph, c.patterns.ensures.patterns) at c.search_within.ensures.none in
    none_then c.search_within.result _ _ (λ none m. elim (within_or_outside c.keys_for-keys.result m.key) [
      | inl within ↦ none m.key m.pattern m.left m.right within m.found m.witness
      | inr out ↦ c.keys_for-keys.ensures m.key m.pattern m.found out (g.S.Sameness.are_same c.args.view.now) m.left m.right m.witness
    ]) none
