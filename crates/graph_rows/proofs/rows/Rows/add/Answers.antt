-- The triples' terms are numbered, and their numbers go into rows.
use Rattle.std.proofs.Common.{◌++◌, map, length, ap, ◌∙◌, arith}
use Rattle.term_table.specs.Numbering.{with_terms, place_of}
use Rattle.term_list.proofs.CallerLemmas.{length-terms_of}
use Rattle.graph_rows.specs.Threes.{in_threes}
use Rattle.graph_rows.specs.declared.rows.Rows.{Rows}
use Rattle.graph_rows.proofs.RowsInNumbers.{in_threes-terms, stand_more}
use Rattle.graph_rows.proofs.rows.Rows.add.Goals as goal

pub intern_all_in_threads-requires-after_bounds : goal.intern_all_in_threads-requires-after_bounds
intern_all_in_threads-requires-after_bounds g c κs within =
    let terms = ap length c.terms.ensures in
    let three = length-terms_of c.args.triples.now in
    omega (arith, c.requires, terms, three)

pub returns-clause-stand : goal.returns-clause-stand
returns-clause-stand g c =
    let triples = c.args.triples.now in
    let names = c.intern_all_in_threads.new.self in
    let new : Rows = record { names = names; rows = c.push_rows.new.rows } in
    λ before s.
    stand_more c.args.self.now new before triples s (c.in_ok-numbers.ensures.ok ∙ ap (with_terms c.args.self.now.names) c.terms.ensures)
    (c.in_ok-push_rows.ensures
    ∙ ap (λ ns. c.args.self.now.rows.items ++ in_threes ns) (c.deref.ensures.value ∙ c.in_ok-numbers.ensures.numbers ∙ ap (map (place_of names)) c.terms.ensures)
    ∙ ap (λ rs. c.args.self.now.rows.items ++ rs) (in_threes-terms names triples))
