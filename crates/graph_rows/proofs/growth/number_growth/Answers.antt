-- Both graphs are built over the same names, from the first rows and from all of them.
use Rattle.std.proofs.Common.{List, ℕ, All, Contains, take, length, ◌<◌, ◌↔◌, sym, ◌∙◌, ap, subst, arith}
use Rattle.std.proofs.lemmas.List.Elements.{All-take}
use Rattle.term_table.proofs.CallerLemmas.{length-with_terms}
use Rattle.key_file.specs.Compile.{key_terms}
use Rattle.key_file.proofs.CallerLemmas.{rows_within, type_within}
use Rattle.graph_rows.proofs.RowsInNumbers.{named_of, names_few, names_numbered, numbered}
use Rattle.graph_rows.proofs.TwoGraphs.{front_told, told_graph, has_front}
use Rattle.graph_rows.proofs.growth.number_growth.Goals as goal

pub number_keys-requires-clause-room : goal.number_keys-requires-clause-room
number_keys-requires-clause-room g c κs within =
    let f = c.requires.few in
    let a = names_few c.args.rows f.0 f.1 in
    let b = c.keys.ensures.few_terms in
    let d = f.2 in
    omega arith

pub graph_over-requires-clause-named : goal.graph_over-requires-clause-named
graph_over-requires-clause-named g c κs within =
    let f = c.requires.few in
    let P : List ℕ → Type 0 = λ row. All (λ n. n < length c.in_ok-whole.whole.names) row in
    let a = ap length c.in_ok-whole.ensures.names in
    let b = (length-with_terms c.args.rows.names (key_terms c.args.keys.now)).0 in
    let all : All P c.args.rows.rows.items = rw f.1.rows (rows_within c.args.rows.names f.0 (length c.in_ok-whole.whole.names) (named_of c.args.rows f.0 f.1) (omega arith)) in
    subst (λ (rows : List (List ℕ)). All P (take c.args.first rows)) (sym c.deref.ensures.value) (All-take P c.args.first c.args.rows.rows.items all)

pub graph_over-requires-clause-type_named : goal.graph_over-requires-clause-type_named
graph_over-requires-clause-type_named g c κs within n e = type_within c.in_ok-whole.whole.names n (sym c.in_ok-whole.ensures.rdf_type ∙ e)

pub graph_over-requires-clause-folding : goal.graph_over-requires-clause-folding
graph_over-requires-clause-folding g c κs within = c.in_ok-whole.ensures.folding (take c.args.first c.deref.result.now)

pub build_in_threads-requires-clause-named : goal.build_in_threads-requires-clause-named
build_in_threads-requires-clause-named g c κs within =
    let f = c.requires.few in
    let a = ap length c.in_ok-whole.ensures.names in
    let b = (length-with_terms c.args.rows.names (key_terms c.args.keys.now)).0 in
    let n = c.len-count.ensures.len in
    rw f.1.rows (rows_within c.args.rows.names f.0 c.len-count.result (named_of c.args.rows f.0 f.1) (omega arith))

pub build_in_threads-requires-clause-type_named : goal.build_in_threads-requires-clause-type_named
build_in_threads-requires-clause-type_named g c κs within = rw c.len-count.ensures.len (λ n e. type_within c.in_ok-whole.whole.names n (sym c.in_ok-whole.ensures.rdf_type ∙ e))

pub build_in_threads-requires-clause-folding : goal.build_in_threads-requires-clause-folding
build_in_threads-requires-clause-folding g c κs within = c.in_ok-whole.ensures.folding c.args.rows.rows.items

pub returns-clause-numbered : goal.returns-clause-numbered
returns-clause-numbered g c =
    let w = c.in_ok-whole.whole in
    let k = c.in_ok-whole.ensures in
    let K = w.patterns.items in
    let f = c.in_ok-first.ensures in
    let h = c.in_ok-both.ensures in
    let front = subst (λ (rows : List (List ℕ)). (row : List ℕ) → Contains c.in_ok-first.first.rows row ↔ Contains (take c.args.first rows) row) c.deref.ensures.value f.rows in
    λ triples s. record {
      names = names_numbered c.args.rows triples w.names c.args.keys.now s k.names;
      first = told_graph w.names (take c.args.first c.args.rows.rows.items) (take c.args.first triples) K c.in_ok-first.first
          (front_told c.args.rows triples w.names (key_terms c.args.keys.now) c.args.first s k.names)
          front (f.literal ∙ k.literal) (f.rdf_type ∙ k.rdf_type) (rw f.alike k.alike);
      both = numbered c.args.rows triples w.names K w.alike.items c.in_ok-both.both (key_terms c.args.keys.now) s k.names
          h.rows (h.literal ∙ k.literal) (h.rdf_type ∙ k.rdf_type) h.alike k.alike;
      patterns = k.patterns;
    }

pub returns-clause-rows : goal.returns-clause-rows
returns-clause-rows g c =
    let f = c.in_ok-first.ensures in
    let h = c.in_ok-both.ensures in
    let front = subst (λ (rows : List (List ℕ)). (row : List ℕ) → Contains c.in_ok-first.first.rows row ↔ Contains (take c.args.first rows) row) c.deref.ensures.value f.rows in
    has_front c.in_ok-whole.whole.patterns.items c.args.rows.rows.items c.args.first c.in_ok-first.first c.in_ok-both.both
    front h.rows (f.literal ∙ sym h.literal) (f.rdf_type ∙ sym h.rdf_type) (f.alike ∙ sym h.alike)
