-- The lines by ranks are those of the images.
use Rattle.std.proofs.Common.{ℕ, ◌<◌, ◌≡◌, List, All, length, map, get_or, subst, sym, ap, ◌∙◌, arith}
use Rattle.std.proofs.lemmas.List.Elements.{All-contains, Contains-get_or}
use Rattle.std.proofs.lemmas.List.Sorted.{length_permutation}
use Rattle.std.proofs.lemmas.Option.{IfSome_then}
use Rattle.term_text.specs.CanonicalText.{texts_of}
use Rattle.merge_graph.specs.MergedGraph.{IsWithin}
use Rattle.merge_graph.specs.Ranked.{KeepsTexts, ListsMarked, HasRank, IsJoinedOnce, ranked_row, ranked_line}
use Rattle.merge_graph.proofs.RankLemmas.{has_ranks, order_within, ranked_within, joined_by_ranks}
use Rattle.merge_graph.proofs.ranked.lines_by_rank.Goals as goal

pub ranks_of-requires-clause-names : goal.ranks_of-requires-clause-names
ranks_of-requires-clause-names c =
    let lists = subst (λ marks. ListsMarked marks c.in_ok-marked.field-0.items) c.deref-2.ensures.value c.in_ok-marked.ensures in
    subst (All (λ name. name < c.len-count.result)) (sym c.deref-3.ensures.value)
    (order_within c.in_ok-marks.marks.items c.in_ok-marked.field-0.items c.by_text-order.result.items c.len-count.result (c.in_ok-marks.ensures.length ∙ c.requires.one_each ∙ sym c.len-count.ensures.len) lists c.by_text-order.ensures)

pub ranks_of-requires-clause-few : goal.ranks_of-requires-clause-few
ranks_of-requires-clause-few c =
    let lists = subst (λ marks. ListsMarked marks c.in_ok-marked.field-0.items) c.deref-2.ensures.value c.in_ok-marked.ensures in
    let same = length_permutation _ _ c.by_text-order.ensures in
    omega (arith, ap length c.deref-3.ensures.value, same, lists.few, c.in_ok-marks.ensures.length, c.requires.one_each, c.len-count.ensures.small)

pub joined_ascending-requires : goal.joined_ascending-requires
joined_ascending-requires c =
    let marks = c.in_ok-marks.marks.items in
    let order = c.by_text-order.result.items in
    let ranks = c.in_ok-ranks.ranks.items in
    let lists = subst (λ m. ListsMarked m c.in_ok-marked.field-0.items) c.deref-2.ensures.value c.in_ok-marked.ensures in
    let ranked : All (HasRank order ranks) order = subst (λ (o : List ℕ). All (HasRank o ranks) o) c.deref-3.ensures.value c.in_ok-ranks.ensures.ranks in
    let is = c.in_ok-ranked_rows.ensures ∙ ap (λ (r : List ℕ). map (ranked_row r c.args.faces.now) c.args.rows.now) c.deref-4.ensures.value in
    let all : All (IsWithin (length order)) c.in_ok-ranked_rows.field-0.items = subst (All (IsWithin (length order))) (sym is)
    (ranked_within c.args.faces.now ranks order marks c.args.rows.now c.in_ok-marks.ensures.marks (has_ranks marks _ order ranks lists c.by_text-order.ensures ranked)) in
    subst (λ (o : List ℕ). All (IsWithin (length o)) c.deref-6.result.now) (sym c.deref-5.ensures.value)
    (subst (All (IsWithin (length order))) (sym c.deref-6.ensures.value)
    (λ k d l. All-contains (IsWithin (length order)) _ _ all ((c.sorted-sorted.ensures (get_or c.sorted-sorted.result.items k d)).0 (Contains-get_or c.sorted-sorted.result.items k d l))))

pub returns : goal.returns
returns c =
    let names = c.args.names.now in
    let marks = c.in_ok-marks.marks.items in
    let order = c.by_text-order.result.items in
    let ranks = c.in_ok-ranks.ranks.items in
    let texts = c.in_ok-texts.texts in
    let sorted = c.sorted-sorted.result.items in
    let lists = subst (λ m. ListsMarked m c.in_ok-marked.field-0.items) c.deref-2.ensures.value c.in_ok-marked.ensures in
    let keeps = subst (λ m. KeepsTexts (texts_of names) m texts) c.deref.ensures.value c.in_ok-texts.ensures in
    let ranked : All (HasRank order ranks) order = subst (λ (o : List ℕ). All (HasRank o ranks) o) c.deref-3.ensures.value c.in_ok-ranks.ensures.ranks in
    let is = c.in_ok-ranked_rows.ensures ∙ ap (λ (r : List ℕ). map (ranked_row r c.args.faces.now) c.args.rows.now) c.deref-4.ensures.value in
    let lines : map (ranked_line texts c.deref-5.result.now) c.deref-6.result.now ≡ map (ranked_line texts order) sorted =
    (λ i. map (ranked_line texts (c.deref-5.ensures.value i)) (c.deref-6.ensures.value i)) in
    IfSome_then c.in_ok-text.text c.in_ok-text.ensures
    (λ v j. joined_by_ranks names c.args.faces.now ranks order marks texts c.args.rows.now _ sorted v.items c.requires.one_each c.requires.faces c.requires.rows c.in_ok-marks.ensures.marks keeps
    (has_ranks marks _ order ranks lists c.by_text-order.ensures ranked) is c.sorted-sorted.ensures (subst (λ (ls : List (List ℕ)). IsJoinedOnce ls v.items) lines j))
