-- One line of a demo for the same triples and keys: each of its counts is one.
use Rattle.std.proofs.Common.{List, ℕ, Contains, ◌≡◌, ◌<◌, ◌↔◌, ◌⊎◌, sym, ◌∙◌, arith, ⊎_elim}
use Rattle.gk_base.specs.declared.term.Triple.{Triple}
use Rattle.chase_laws.specs.Graph.{NumberedGraph}
use Rattle.chase_laws.specs.Shape.{Shape}
use Rattle.chase_laws.specs.Candidate.{IsCandidateCount}
use Rattle.key_file.specs.KeyShape.{KeyShape}
use Rattle.key_file.specs.Compile.{patterns_of}
use Rattle.key_file.specs.Numbered.{names_for, graph_of}
use Rattle.demo_graph.specs.Counts.{IsPlaceCount}
use Rattle.demo_graph.specs.DemoLine.{demo_line_text}
use Rattle.gkey_cmd.specs.Demo.{IsRowCount, IsDemoLine, IsDemoText}
use Rattle.gkey_cmd.proofs.OneList.{as_many, apart}

-- two lists that have exactly what is so have the same members
same_members : {X : Type 0} (P : X → Type 0) (xs ys : List X) → ((x : X) → Contains xs x ↔ P x) → ((x : X) → Contains ys x ↔ P x) → (x : X) → Contains xs x ↔ Contains ys x
same_members P xs ys p q x = ((λ h. (q x).1 ((p x).0 h)), (λ h. (p x).1 ((q x).0 h)))

one_row_count : (G : NumberedGraph) (m n : ℕ) → IsRowCount G m → IsRowCount G n → m ≡ n
one_row_count G m n f g = sym f.count ∙ as_many f.rows g.rows f.distinct g.distinct (same_members (λ row. Contains G.rows row) f.rows g.rows f.exact g.exact) ∙ g.count

never_before : (x : ℕ × ℕ) → (x.0 < x.0) ⊎ ((x.0 ≡ x.0) × (x.1 < x.1)) → ⊥
never_before x h = ⊎_elim (λ l. absurd (omega (arith, l))) (λ l. absurd (omega (arith, l.1))) h

one_pair_count : (G : NumberedGraph) (K : List Shape) (m n : ℕ) → IsCandidateCount G K m → IsCandidateCount G K n → m ≡ n
one_pair_count G K m n f g =
    let Before = λ (x y : ℕ × ℕ). (x.0 < y.0) ⊎ ((x.0 ≡ y.0) × (x.1 < y.1)) in
    sym f.count
    ∙ as_many f.pairs g.pairs (apart Before never_before f.pairs f.ascending) (apart Before never_before g.pairs g.ascending)
    (λ x. ((λ h. (g.exact x.0 x.1).1 ((f.exact x.0 x.1).0 h)), (λ h. (f.exact x.0 x.1).1 ((g.exact x.0 x.1).0 h))))
    ∙ g.count

one_place_count : (Holds : ℕ → Type 0) (m n : ℕ) → IsPlaceCount Holds m → IsPlaceCount Holds n → m ≡ n
one_place_count Holds m n f g =
    let never = λ (x : ℕ) (l : x < x). absurd {A = ⊥} (omega (arith, l)) in
    sym f.count
    ∙ as_many f.listed g.listed (apart (λ x y. x < y) never f.listed f.ascending) (apart (λ x y. x < y) never g.listed g.ascending) (same_members Holds f.listed g.listed f.exact g.exact)
    ∙ g.count

one_line : (G : NumberedGraph) (K : List Shape) (first second : List ℕ) → IsDemoLine G K first → IsDemoLine G K second → first ≡ second
one_line G K first second f g =
    let rows = one_row_count G f.row_count g.row_count f.rows g.rows in
    let pairs = one_pair_count G K f.pair_count g.pair_count f.pairs g.pairs in
    let classes = one_place_count _ f.class_count g.class_count f.classes g.classes in
    let members = one_place_count _ f.member_count g.member_count f.members g.members in
    f.written ∙ (λ i. demo_line_text (rows i) (pairs i) (classes i) (members i)) ∙ sym g.written

pub one_demo : (triples : List Triple) (keys : List KeyShape) (first second : List ℕ) → IsDemoText triples keys first → IsDemoText triples keys second → first ≡ second
one_demo triples keys first second f g =
    let names = names_for triples keys in one_line (graph_of names triples) (patterns_of names keys) first second f g
