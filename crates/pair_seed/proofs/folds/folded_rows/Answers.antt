-- One row more.
use Rattle.std.proofs.Common.{ℕ, List, [], ◌∷◌, ◌≡◌, ◌<◌, length, get_or, slice_index, sym, ◌∙◌, true≢false, take_all, subst, arith}
use Rattle.std.proofs.lemmas.List.Elements.{All-push}
use Rattle.typed_graph.proofs.CallerLemmas.{three}
use Rattle.pair_seed.proofs.Keys.{AreFolded, folded_push, folded_skip, literal_named, folded_all}
use Rattle.pair_seed.proofs.folds.folded_rows.Goals as goal
use Rattle.pair_seed.proofs.folds.folded_rows.Goals.{then-is_literal+in_ok-push, else-is_literal}

pub alike-requires : goal.alike-requires
alike-requires c = literal_named c.args.graph.now _ (c.is_literal.ensures.0 c.if-is_literal.true)

pub loop-row-preserved : goal.loop-row-preserved
loop-row-preserved c =
    let G = c.args.graph.now in
    let rows = c.rows-row-items.result.now in
    let i = c.loop-row.row-index in
    let r = get_or rows i [] in
    let whole : r ≡ slice_index r 0 ∷ slice_index r 1 ∷ slice_index r 2 ∷ [] = three r ((rw (sym c.rows-row-items.ensures.rows) at c.rows-row-items.ensures.three) i [] c.loop-row-test.true) in
    elim c.if-is_literal.branch [
      | then-is_literal+in_ok-push w ↦ rw w.out-is (record {
        rows = folded_push G rows c.loop-row.out.items _ i (slice_index r 0) (slice_index r 1) (slice_index r 2) c.loop-row-test.true whole (c.is_literal.ensures.0 w.if-is_literal.true) c.loop-row.invariant.rows (rw w.alike.ensures.alike at w.in_ok-push.ensures.items);
        named = rw w.in_ok-push.ensures.items (All-push (λ (row : List ℕ). slice_index row 0 < length G.literal) c.loop-row.out.items _ c.loop-row.invariant.named
            (let named = literal_named G (slice_index r 2) (c.is_literal.ensures.0 w.if-is_literal.true) in let low = w.alike.ensures.not_above in omega arith));
      })
      | else-is_literal w ↦ rw w.out-is (record {
        rows = folded_skip G rows c.loop-row.out.items i (slice_index r 0) (slice_index r 1) (slice_index r 2) c.loop-row-test.true whole (λ literal. true≢false (sym (c.is_literal.ensures.1 literal) ∙ w.if-is_literal.false)) c.loop-row.invariant.rows;
        named = c.loop-row.invariant.named;
      })
    ]

pub returns-clause-rows : goal.returns-clause-rows
returns-clause-rows c = folded_all c.args.graph.now c.loop-row.out.items (subst (λ (rows : List (List ℕ)). AreFolded c.args.graph.now rows c.loop-row.out.items) (take_all c.loop-row.row-index c.rows-row-items.result.now c.loop-row-test.false ∙ c.rows-row-items.ensures.rows) c.loop-row.invariant.rows)
