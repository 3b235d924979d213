-- The labels are those of the chase, and the rows those of the graph that was chased.
use Rattle.std.proofs.Common.{List, ℕ, All, length, map, ◌≡◌, ◌<◌, ◌∙◌, sym, ap, subst}
use Rattle.chase_laws.specs.Graph.{NumberedGraph, IsGraph}
use Rattle.merge_graph.specs.MergedGraph.{same_label, triple_at, IsWithin, IsSortedText, AreApart}
use Rattle.merge_graph.specs.Saying.{CanBeSaid, IsReadAsMerged}
use Rattle.gkey_cmd.proofs.MergedOutput.{rows_within}
use Rattle.gkey_cmd.proofs.merge_command.graph_text.Goals as goal

pub merge-requires-clause-one_each : goal.merge-requires-clause-one_each
merge-requires-clause-one_each c = ap length c.deref.ensures.value ∙ c.requires.finished.classes.count ∙ c.requires.named

pub merge-requires-clause-rows : goal.merge-requires-clause-rows
merge-requires-clause-rows c =
    let count = length c.args.finished.now.ground.graph.literal in
    let graph : IsGraph c.args.finished.now.ground.graph = subst IsGraph c.graph-graph.ensures c.names-names.ensures.graph in
    let of_ground = c.rows.ensures.rows ∙ ap (λ (G : NumberedGraph). G.rows) c.graph-graph.ensures in
    let within : All (λ row. All (λ n. n < count) row) c.rows.result.now = subst (λ rows. All (λ row. All (λ n. n < count) row) rows) (sym of_ground) graph in
    let three : All (λ row. length row ≡ 3) c.rows.result.now = subst (λ rows. All (λ row. length row ≡ 3) rows) (sym c.rows.ensures.rows) c.rows.ensures.three in
    subst (λ m. All (IsWithin m) c.rows.result.now) c.requires.named (rows_within count c.rows.result.now three within)

pub returns : goal.returns
returns c =
    let names = c.args.names.now in
    let labels = c.args.finished.now.labels.items in
    let text = c.into_vec.result.items in
    let rows : c.rows.result.now ≡ c.args.finished.now.ground.graph.rows = c.rows.ensures.rows ∙ ap (λ (G : NumberedGraph). G.rows) c.graph-graph.ensures in
    let lent = c.deref.ensures.value in
    let Alone : List (List ℕ) → List ℕ → List ℕ → Type 0 = λ rs ls t. AreApart ls → IsSortedText (map (triple_at names) rs) t in
    let Read : List (List ℕ) → List ℕ → List ℕ → Type 0 = λ rs ls t. CanBeSaid names rs ls → IsReadAsMerged names rs (same_label ls) t in
    record {
      labels = labels;
      classes = c.requires.finished.classes;
      unmerged = subst (λ rs. Alone rs labels text) rows (subst (λ ls. Alone c.rows.result.now ls text) lent (subst (λ t. Alone c.rows.result.now c.deref.result.now t) (sym c.into_vec.ensures) c.in_ok-text.ensures.unmerged));
      read_back = subst (λ rs. Read rs labels text) rows (subst (λ ls. Read c.rows.result.now ls text) lent (subst (λ t. Read c.rows.result.now c.deref.result.now t) (sym c.into_vec.ensures) c.in_ok-text.ensures.read_back));
    }
