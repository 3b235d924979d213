-- The rows of the table are among those of the whole one, and all else is the same.
use Rattle.std.proofs.Common.{List, ℕ, Contains, ◌++◌, ◌≡◌, ◌∙◌, inl, sym, ap, subst}
use Rattle.std.proofs.lemmas.List.Elements.{Contains-append_left}
use Rattle.grow_tests.proofs.graphs.graphs_of.Goals as goal

pub returns : goal.returns
returns c =
    let table = c.args.table.now in
    let added = c.args.added.now in
    let f = c.in_ok-first.ensures in
    let b = c.in_ok-both.ensures in
    let whole : c.deref.result.now ≡ table.rows.now ++ added =
    c.deref.ensures.value ∙ c.in_ok-extend_from_slice.ensures.items ∙ ap (λ (rows : List (List ℕ)). rows ++ added) c.in_ok-rows.ensures.items in
    λ K. record {
      rows = λ row h. (b.rows row).1 (subst (λ (rows : List (List ℕ)). Contains rows row) (sym whole) (Contains-append_left table.rows.now added row ((f.rows row).0 h)));
      literal = f.literal ∙ sym b.literal;
      rdf_type = f.rdf_type ∙ sym b.rdf_type;
      alike = inl (f.alike ∙ sym b.alike);
    }
