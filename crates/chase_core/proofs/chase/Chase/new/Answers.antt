-- The opening state.
use Rattle.std.proofs.Common.{List, ℕ, ◌≡◌, length, replicate, refl, sym, subst, ◌∙◌, ap, arith}
use Rattle.std.specs.List.{range_with_len}
use Rattle.chase_laws.specs.declared.pair_state.PairState.TheVariants as state
use Rattle.chase_laws.specs.Graph.{NumberedGraph}
use Rattle.chase_laws.specs.Core.{IsSound, name_count}
use Rattle.chase_core.proofs.Events.{own_labels, opens}
use Rattle.chase_core.proofs.chase.Chase.new.Goals as goal

pub returns-clause-ready : goal.returns-clause-ready
returns-clause-ready c = c.in_ok-table.ensures.ready ∙ ap (λ (ps : List (ℕ × ℕ)). range_with_len 0 (length ps)) c.pairs.ensures.pairs

pub returns-clause-opening : goal.returns-clause-opening
returns-clause-opening c =
    let T = c.args.setup.now.task in
    let names = c.names-names.ensures.names ∙ ap (λ (G : NumberedGraph). length G.literal) c.graph.ensures.graph in
    opens T c.in_ok-book.book.journal c.in_ok-book.book.labels c.in_ok-table.table.states c.in_ok-book.ensures.empty
    (own_labels c.in_ok-book.book.labels c.names-names.result c.in_ok-book.ensures.count c.in_ok-book.ensures.own ∙ ap (range_with_len 0) names)
    (c.in_ok-table.ensures.states ∙ ap (λ (ps : List (ℕ × ℕ)). replicate (length ps) state.Ready) c.pairs.ensures.pairs)

pub invariant_of-result : goal.invariant_of-result
invariant_of-result c =
    let T = c.args.setup.now.task in
    let names : c.names-names.result ≡ name_count T = c.names-names.ensures.names ∙ ap (λ (G : NumberedGraph). length G.literal) c.graph.ensures.graph in
    let opened = opens T c.in_ok-book.book.journal c.in_ok-book.book.labels c.in_ok-table.table.states c.in_ok-book.ensures.empty
    (own_labels c.in_ok-book.book.labels c.names-names.result c.in_ok-book.ensures.count c.in_ok-book.ensures.own ∙ ap (range_with_len 0) names)
    (c.in_ok-table.ensures.states ∙ ap (λ (ps : List (ℕ × ℕ)). replicate (length ps) state.Ready) c.pairs.ensures.pairs) in
    record {
      task = c.prepared.ensures.task;
      sound = subst (IsSound T) (sym opened) (c.law_core.ensures.opening T);
      room = c.in_ok-book.ensures.room ∙ c.min-room.ensures ∙ rw (c.saturating_sub.ensures, names, c.pairs.ensures.pairs) refl;
      within = rw c.in_ok-book.ensures.empty (omega arith);
      aside = omega (arith, c.in_ok-aside.ensures.exact, ap (λ (ps : List (ℕ × ℕ)). length ps) c.pairs.ensures.pairs);
    }
