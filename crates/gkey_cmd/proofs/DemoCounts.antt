-- The counts of the graph that was built are those of the triples.
use Rattle.std.proofs.Common.{List, ℕ, AllPairs, length, get_or, ◌↔◌, ◌≡◌, ◌≢◌, ◌∙◌, ◌<◌, sym, ap, subst}
use Rattle.std.specs.Ordering.{nat_cmp, ordering_reverse}
use Rattle.std.specs.declared.cmp.Ordering.TheVariants.{Less, Greater}
use Rattle.std.specs.Cmp.{IsTotalOrder}
use Rattle.std.specs.Cmp.Lexicographic.{slice_cmp}
use Rattle.std.specs.List.Sorted.{IsStrictlySortedBy}
use Rattle.std.proofs.lemmas.Cmp.{nat_list_cmp_total}
use Rattle.std.proofs.lemmas.Map.Keys.{Less-from_sorted}
use Rattle.gk_base.specs.declared.term.Term.{Term}
use Rattle.gk_base.specs.declared.term.Triple.{Triple}
use Rattle.chase_laws.specs.Graph.{NumberedGraph}
use Rattle.chase_laws.specs.Shape.{Shape}
use Rattle.chase_laws.specs.Candidate.{IsCandidate, IsCandidateCount}
use Rattle.chase_laws.specs.SameRows.{HasRowsOf}
use Rattle.match_run.specs.Classes.{AreClasses}
use Rattle.key_file.specs.KeyShape.{KeyShape}
use Rattle.key_file.specs.Compile.{patterns_of}
use Rattle.key_file.specs.Numbered.{names_for, graph_of}
use Rattle.graph_rows.specs.Numbered.{AreSameGraph}
use Rattle.demo_graph.specs.Counts.{HaveOneLabel, SharesItsLabel, LeadsItsClass, IsPlaceCount, IsMemberCount, IsClassCount}
use Rattle.demo_graph.specs.DemoLine.{demo_line_text}
use Rattle.demo_graph.proofs.CallerLemmas.{counted_alike}
use Rattle.gkey_cmd.specs.Demo.{IsRowCount, AreInOneClass, IsMember, IsFirstMember, IsDemoLine, IsDemoText}
use Rattle.gkey_cmd.proofs.Reports.{SameLaw, said}

-- what the law of more rows says of the same candidates
abbrev pub CandidatesLaw : Type 0
CandidatesLaw = (G F : NumberedGraph) (K : List Shape) → HasRowsOf K G F → HasRowsOf K F G → (a b : ℕ) → IsCandidate G K a b ↔ IsCandidate F K a b

-- rows that rise are each there once
rows_distinct : (rows : List (List ℕ)) → IsStrictlySortedBy (slice_cmp nat_cmp) rows → AllPairs (λ row other. row ≢ other) rows
rows_distinct rows rise i j d below inside same =
    let less = Less-from_sorted (slice_cmp nat_cmp) rows i j d rise below inside in
    let self : slice_cmp nat_cmp (get_or rows j d) (get_or rows j d) ≡ Less = subst (λ row. slice_cmp nat_cmp row (get_or rows j d) ≡ Less) same less in
    let total : IsTotalOrder (slice_cmp nat_cmp) = nat_list_cmp_total in
    let turned : Less ≡ Greater = sym self ∙ total.antisymm (get_or rows j d) (get_or rows j d) ∙ ap ordering_reverse self in cc

module _ (G F : NumberedGraph) (K : List Shape) (there : HasRowsOf K G F) (back : HasRowsOf K F G) where
  row_count : (n : ℕ) → IsStrictlySortedBy (slice_cmp nat_cmp) G.rows → length G.rows ≡ n → IsRowCount F n
  row_count n rise count = record {
    rows = G.rows;
    distinct = rows_distinct G.rows rise;
    exact = λ row. (there.rows row, back.rows row);
    count = count;
  }

  pair_count : CandidatesLaw → (n : ℕ) → IsCandidateCount G K n → IsCandidateCount F K n
  pair_count law n h = record {
    pairs = h.pairs;
    ascending = h.ascending;
    exact = λ a b. let e = h.exact a b in let c = law G F K there back a b in ((λ m. c.0 (e.0 m)), (λ k. e.1 (c.1 k)));
    count = h.count;
  }

  module _ (law : SameLaw) (labels : List ℕ) (classes : AreClasses G K labels) where
    as_many : length labels ≡ length F.literal
    as_many = classes.count ∙ ap length there.literal

    one_class : (i j : ℕ) → HaveOneLabel labels i j → AreInOneClass F K i j
    one_class i j h = (
      subst (λ n. i < n) as_many h.0,
      subst (λ n. j < n) as_many h.1,
      (law G F K there back i j).0 ((classes.same i j h.0 h.1).0 h.2),
    )

    one_label : (i j : ℕ) → AreInOneClass F K i j → HaveOneLabel labels i j
    one_label i j h =
        let i_inside = subst (λ n. i < n) (sym as_many) h.0 in
        let j_inside = subst (λ n. j < n) (sym as_many) h.1 in
        (i_inside, j_inside, (classes.same i j i_inside j_inside).1 ((law G F K there back i j).1 h.2))

    member_count : (n : ℕ) → IsMemberCount labels n → IsPlaceCount (IsMember F K) n
    member_count n h = counted_alike (SharesItsLabel labels) (IsMember F K) n
        (λ i. ((λ s. (s.0, s.1, one_class i s.0 s.2)), (λ m. (m.0, m.1, one_label i m.0 m.2)))) h

    class_count : (n : ℕ) → IsClassCount labels n → IsPlaceCount (IsFirstMember F K) n
    class_count n h = counted_alike (LeadsItsClass labels) (IsFirstMember F K) n
        (λ i. (
          (λ l. record {
            later = (l.later.0, l.later.1, one_class i l.later.0 l.later.2);
            no_earlier = λ b below same. l.no_earlier b below (one_label i b same);
          }),
          (λ f. record {
            later = (f.later.0, f.later.1, one_label i f.later.0 f.later.2);
            no_earlier = λ b below same. f.no_earlier b below (one_class i b same);
          }),
        )) h

-- all counts together, in the line
pub demo_is : (triples : List Triple) (keys : List KeyShape) (G : NumberedGraph) (names : List Term) (K : List Shape) → names ≡ names_for triples keys →
    AreSameGraph K G (graph_of names triples) → K ≡ patterns_of names keys → SameLaw → CandidatesLaw → (labels text : List ℕ) (rows pairs classes members : ℕ) →
    IsStrictlySortedBy (slice_cmp nat_cmp) G.rows → length G.rows ≡ rows → IsCandidateCount G K pairs → AreClasses G K labels →
    IsClassCount labels classes → IsMemberCount labels members → text ≡ demo_line_text rows pairs classes members → IsDemoText triples keys text
demo_is triples keys G names K are_names built are_patterns same candidates labels text rows pairs classes members rise row_number pair_number right class_number member_number written =
    let F = graph_of names triples in
    said triples keys G names K are_names built are_patterns (λ F Q ns. IsDemoLine F Q text)
    (record {
      row_count = rows;
      pair_count = pairs;
      class_count = classes;
      member_count = members;
      rows = row_count G F K built.there built.back rows rise row_number;
      pairs = pair_count G F K built.there built.back candidates pairs pair_number;
      classes = class_count G F K built.there built.back same labels right classes class_number;
      members = member_count G F K built.there built.back same labels right members member_number;
      written = written;
    })
