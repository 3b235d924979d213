-- A file is not to be had, or both are.
use Rattle.std.proofs.Common.{[], ◌∷◌, Ok, IfSome, refl, subst, ◌∙◌, arith}
use Rattle.std.proofs.lemmas.Result.{err_from_is_err_and}
use Rattle.gk_io.specs.Files.{bytes_of}
use Rattle.gkey_cmd.specs.Commands.{Matching}
use Rattle.gkey_cmd.specs.Reading.{KeyFileSays, left_by}
use Rattle.gkey_cmd.specs.declared.file.File.TheVariants.{Graph, Keys}
use Rattle.gkey_cmd.proofs.Deciding.{read_none, graph_read, file_left_first, keys_judged, stopped, graph_ends, before_chase, stops_at_graph, stops_at_keys}
use Rattle.gkey_cmd.proofs.reading.read_graph_and_keys.Goals as goal

pub returns-in_err-rows-clause-ends : goal.returns-in_err-rows-clause-ends
returns-in_err-rows-clause-ends g c =
    let a = c.args in
    let k = c.from_residual in
    let p = err_from_is_err_and k.result k.ensures.1 in
    let none = read_none g.S.Shelf a.shelf.now a.options.now.limits.now in
    rw (p.1, p.2) (stopped g.S.Shelf a.shelf.now a.shelf.now c.read_rows.new.shelf a.options.now.limits.now a.options.now.limits.now [] Graph a.files.now.graph.now none a.options.now.limits.now (λ files refusal h. h)
    (Matching a.files.now.graph.now a.files.now.keys.now) ((Keys, a.files.now.keys.now) ∷ []) refl
    (stops_at_graph g.S.Shelf a.shelf.now c.read_rows.new.shelf a.options.now.limits.now a.files.now.graph.now a.files.now.keys.now []) _
    (graph_ends g.S.Shelf a.shelf.now c.read_rows.new.shelf a.options.now.limits.now a.files.now.graph.now c.in_err-rows.field-0.0 c.in_err-rows.ensures.gives))

pub returns-in_err-rows-clause-before : goal.returns-in_err-rows-clause-before
returns-in_err-rows-clause-before g c =
    let a = c.args in
    let k = c.from_residual in
    let p = err_from_is_err_and k.result k.ensures.1 in
    rw (p.1, p.2) (before_chase g.S.Shelf a.shelf.now c.read_rows.new.shelf a.options.now.limits.now Graph a.files.now.graph.now _
    (graph_ends g.S.Shelf a.shelf.now c.read_rows.new.shelf a.options.now.limits.now a.files.now.graph.now c.in_err-rows.field-0.0 c.in_err-rows.ensures.gives))

pub returns-in_err-keys-clause-ends : goal.returns-in_err-keys-clause-ends
returns-in_err-keys-clause-ends g c =
    let a = c.args in
    let k = c.from_residual-in_err-keys in
    let p = err_from_is_err_and k.result k.ensures.1 in
    let r = c.in_ok-rows.ensures in
    let t = r.gives.1 in
    let left = left_by a.options.now.limits.now t.0 in
    let one = graph_read g.S.Shelf a.shelf.now c.read_rows.new.shelf a.options.now.limits.now a.files.now.graph.now t.0 t.1.says r.gives.0 r.held in
    rw (p.1, p.2) (stopped g.S.Shelf a.shelf.now c.read_rows.new.shelf c.read_keys.new.shelf a.options.now.limits.now left ((Graph, a.files.now.graph.now) ∷ []) Keys a.files.now.keys.now one
    a.options.now.limits.now (keys_judged a.options.now.limits.now left refl a.files.now.keys.now) (Matching a.files.now.graph.now a.files.now.keys.now) [] refl
    (stops_at_keys g.S.Shelf a.shelf.now c.read_keys.new.shelf a.options.now.limits.now a.files.now.graph.now a.files.now.keys.now []) c.in_err-keys.field-0.0 c.in_err-keys.ensures.ends)

pub returns-in_err-keys-clause-before : goal.returns-in_err-keys-clause-before
returns-in_err-keys-clause-before g c =
    let a = c.args in
    let k = c.from_residual-in_err-keys in
    let p = err_from_is_err_and k.result k.ensures.1 in
    rw (p.1, p.2) (before_chase g.S.Shelf c.read_rows.new.shelf c.read_keys.new.shelf a.options.now.limits.now Keys a.files.now.keys.now c.in_err-keys.field-0.0 c.in_err-keys.ensures.ends)

pub returns-clause-read : goal.returns-clause-read
returns-clause-read g c =
    let a = c.args in
    let r = c.in_ok-rows.ensures in
    let t = r.gives.1 in
    let k = c.in_ok-keys in
    let in_keys = subst (λ o. IfSome o (λ files. KeyFileSays a.options.now.limits.now (bytes_of files a.files.now.keys.now) (Ok k.keys))) r.held k.ensures.says in
    let left = left_by a.options.now.limits.now t.0 in
    let one = graph_read g.S.Shelf a.shelf.now c.read_rows.new.shelf a.options.now.limits.now a.files.now.graph.now t.0 t.1.says r.gives.0 r.held in (
      t.0,
      record {
        stand = t.1.stand;
        count = k.ensures.count ∙ r.gives.0;
        in_graph = t.1.says;
        in_keys = in_keys;
        left = file_left_first g.S.Shelf a.shelf.now c.read_rows.new.shelf c.read_keys.new.shelf a.options.now.limits.now left ((Graph, a.files.now.graph.now) ∷ []) Keys a.files.now.keys.now one a.options.now.limits.now.key_bytes k.ensures.left;
      },
    )

pub returns-clause-few : goal.returns-clause-few
returns-clause-few g c =
    let t = c.in_ok-rows.ensures.gives.1 in (t.0, t.1.stand, omega (arith, t.1.few, c.requires.triples))
