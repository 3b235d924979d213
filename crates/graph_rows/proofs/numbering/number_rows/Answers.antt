-- The rows stand for triples, and the keys' terms come behind their names.
use Rattle.std.proofs.Common.{length, ◌∙◌, ap, refl, sym, arith}
use Rattle.std.proofs.lemmas.List.{length-map}
use Rattle.gk_base.specs.Term.{is_literal}
use Rattle.term_table.proofs.CallerLemmas.{length-with_terms}
use Rattle.key_file.specs.Compile.{key_terms}
use Rattle.key_file.proofs.CallerLemmas.{rows_within, type_within}
use Rattle.graph_rows.proofs.RowsInNumbers.{named_of, names_few, names_numbered, numbered, few_patterns}
use Rattle.graph_rows.proofs.numbering.number_rows.Goals as goal

pub number_keys-requires-clause-room : goal.number_keys-requires-clause-room
number_keys-requires-clause-room g c κs within =
    let f = c.requires.few in
    let a = names_few c.args.rows f.0 f.1 in
    let b = c.keys.ensures.few_terms in
    let d = f.2 in
    omega arith

pub returns-clause-numbered : goal.returns-clause-numbered
returns-clause-numbered g c =
    let k = c.in_ok-whole.ensures in
    let w = c.in_ok-whole.whole in
    λ triples s. record {
      names = names_numbered c.args.rows triples w.names c.args.keys.now s k.names;
      graph = numbered c.args.rows triples w.names w.patterns.items w.alike.items
          (record { rows = c.args.rows.rows.items; literal = w.literal.items; rdf_type = w.rdf_type; alike = w.alike.items })
          (key_terms c.args.keys.now) s k.names (λ row. ((λ h. h), (λ h. h))) k.literal k.rdf_type refl k.alike;
      patterns = k.patterns;
    }

pub returns-clause-parts : goal.returns-clause-parts
returns-clause-parts g c =
    let f = c.requires.few in
    let k = c.in_ok-whole.ensures in
    let w = c.in_ok-whole.whole in
    let a = ap length k.names in
    let b = (length-with_terms c.args.rows.names (key_terms c.args.keys.now)).0 in
    record {
      named = rw f.1.rows (rows_within c.args.rows.names f.0 (length w.names) (named_of c.args.rows f.0 f.1) (omega arith));
      flags = ap length k.literal ∙ length-map w.names is_literal;
      type_named = λ n e. type_within w.names n (sym k.rdf_type ∙ e);
      folding = k.folding c.args.rows.rows.items;
    }

pub returns-clause-few_patterns : goal.returns-clause-few_patterns
returns-clause-few_patterns g c = few_patterns c.in_ok-whole.whole.names c.args.keys.now c.in_ok-whole.whole.patterns.items c.in_ok-whole.ensures.patterns c.keys.ensures.few
