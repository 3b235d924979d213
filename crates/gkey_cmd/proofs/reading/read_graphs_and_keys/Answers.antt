-- A file is not to be had, or all three are: the rows of the second graph stand behind those of the first.
use Rattle.std.proofs.Common.{[], ◌∷◌, ◌++◌, Ok, IfSome, length-append, refl, sym, subst, ap, ◌∙◌, arith}
use Rattle.std.proofs.lemmas.Result.{err_from_is_err_and}
use Rattle.gk_base.specs.declared.limits.Limits.{Limits}
use Rattle.gk_io.specs.Files.{bytes_of}
use Rattle.gkey_cmd.specs.Commands.{Growing}
use Rattle.gkey_cmd.specs.Reading.{GraphSays, KeyFileSays, left_by}
use Rattle.gkey_cmd.specs.Endings.{more_ending, EndsAt}
use Rattle.gkey_cmd.specs.declared.file.File.TheVariants.{Graph, More, Keys}
use Rattle.gkey_cmd.proofs.Deciding.{read_none, graph_read, file_left_first, keys_judged, stopped, graph_ends}
use Rattle.gkey_cmd.proofs.Growing.{more_ends, grow_stops_at_graph, grow_stops_at_more, grow_stops_at_keys, more_read}
use Rattle.gkey_cmd.proofs.reading.read_graphs_and_keys.Goals as goal

pub returns-in_err-first-clause-ends : goal.returns-in_err-first-clause-ends
returns-in_err-first-clause-ends g c =
    let a = c.args in
    let f = a.files.now in
    let limits = a.options.now.limits.now in
    let k = c.from_residual in
    let p = err_from_is_err_and k.result k.ensures.1 in
    let none = read_none g.S.Shelf a.shelf.now limits in
    rw (p.1, p.2) (stopped g.S.Shelf a.shelf.now a.shelf.now c.read_rows.new.shelf limits limits [] Graph f.graph.now none limits (λ files refusal h. h)
    (Growing f.graph.now f.more.now f.keys.now) ((More, f.more.now) ∷ (Keys, f.keys.now) ∷ []) refl
    (grow_stops_at_graph g.S.Shelf a.shelf.now c.read_rows.new.shelf limits f.graph.now f.more.now f.keys.now) _
    (graph_ends g.S.Shelf a.shelf.now c.read_rows.new.shelf limits f.graph.now c.in_err-first.field-0.0 c.in_err-first.ensures.gives))

pub left_by-left-requires : goal.left_by-left-requires
left_by-left-requires g c = let t = c.in_ok-first.ensures.gives.1 in (t.0, t.1.stand, t.1.few)

pub read_more_rows-requires-clause-room : goal.read_more_rows-requires-clause-room
read_more_rows-requires-clause-room g c κs within =
    let t = c.in_ok-first.ensures.gives.1 in
    let e = c.left_by-left.ensures t.0 t.1.stand in
    let n = ap (λ (l : Limits). l.triples) e in
    (t.0, t.1.stand, omega (arith, n, t.1.few, c.requires.triples))

pub returns-in-Err-clause-ends : goal.returns-in-Err-clause-ends
returns-in-Err-clause-ends g c =
    let a = c.args in
    let f = a.files.now in
    let limits = a.options.now.limits.now in
    let before = c.read_rows.new.shelf in
    let after = c.read_more_rows.new.shelf in
    let r = c.in_ok-first.ensures in
    let t = r.gives.1 in
    let left = left_by limits t.0 in
    let e = c.left_by-left.ensures t.0 t.1.stand in
    let one = graph_read g.S.Shelf a.shelf.now before limits f.graph.now t.0 t.1.says r.gives.0 r.held in
    let stops = more_ends g.S.Shelf before after c.left_by-left.result f.more.now c.in-Err.stop c.in-Err.ensures.gives in
    let under_left = subst (λ l. EndsAt g.S.Shelf before after l More f.more.now (more_ending c.in-Err.stop)) e stops in
    let ends = subst (EndsAt g.S.Shelf before after left More f.more.now) (sym c.more_ending.ensures) under_left in
    stopped g.S.Shelf a.shelf.now before after limits left ((Graph, f.graph.now) ∷ []) More f.more.now one
    left (λ files refusal h. h) (Growing f.graph.now f.more.now f.keys.now) ((Keys, f.keys.now) ∷ []) refl
    (grow_stops_at_more g.S.Shelf a.shelf.now after limits f.graph.now f.more.now f.keys.now t.0 t.1.says) c.more_ending.result ends

pub returns-in_err-key_list-clause-ends : goal.returns-in_err-key_list-clause-ends
returns-in_err-key_list-clause-ends g c =
    let a = c.args in
    let f = a.files.now in
    let limits = a.options.now.limits.now in
    let k = c.from_residual-in_err-key_list in
    let p = err_from_is_err_and k.result k.ensures.1 in
    let r = c.in_ok-first.ensures in
    let t = r.gives.1 in
    let m = c.in-Ok.ensures in
    let u = m.gives.1 in
    let last = left_by (left_by limits t.0) u.0 in
    let e = c.left_by-left.ensures t.0 t.1.stand in
    let one = graph_read g.S.Shelf a.shelf.now c.read_rows.new.shelf limits f.graph.now t.0 t.1.says r.gives.0 r.held in
    let says = subst (λ l. IfSome (g.S.Shelf.held c.read_rows.new.shelf) (λ files. GraphSays l (bytes_of files f.more.now) (Ok u.0))) e u.1.says in
    let two = more_read g.S.Shelf a.shelf.now c.read_rows.new.shelf c.read_more_rows.new.shelf limits f.graph.now f.more.now t.0 u.0 one says m.gives.0 m.held in
    rw (p.1, p.2) (stopped g.S.Shelf a.shelf.now c.read_more_rows.new.shelf c.read_keys.new.shelf limits last ((Graph, f.graph.now) ∷ (More, f.more.now) ∷ []) Keys f.keys.now two
    limits (keys_judged limits last refl f.keys.now) (Growing f.graph.now f.more.now f.keys.now) [] refl
    (grow_stops_at_keys g.S.Shelf a.shelf.now c.read_keys.new.shelf limits f.graph.now f.more.now f.keys.now) c.in_err-key_list.field-0.0 c.in_err-key_list.ensures.ends)

pub returns-clause-read : goal.returns-clause-read
returns-clause-read g c =
    let a = c.args in
    let f = a.files.now in
    let limits = a.options.now.limits.now in
    let k = c.in_ok-key_list in
    let r = c.in_ok-first.ensures in
    let t = r.gives.1 in
    let m = c.in-Ok.ensures in
    let u = m.gives.1 in
    let last = left_by (left_by limits t.0) u.0 in
    let e = c.left_by-left.ensures t.0 t.1.stand in
    let one = graph_read g.S.Shelf a.shelf.now c.read_rows.new.shelf limits f.graph.now t.0 t.1.says r.gives.0 r.held in
    let says = subst (λ l. IfSome (g.S.Shelf.held c.read_rows.new.shelf) (λ files. GraphSays l (bytes_of files f.more.now) (Ok u.0))) e u.1.says in
    let two = more_read g.S.Shelf a.shelf.now c.read_rows.new.shelf c.read_more_rows.new.shelf limits f.graph.now f.more.now t.0 u.0 one says m.gives.0 m.held in (
      t.0,
      u.0,
      record {
        stand = u.1.stand t.0 t.1.stand;
        count = k.ensures.count ∙ m.gives.0 ∙ r.gives.0;
        in_graph = t.1.says;
        in_more = subst (λ o. IfSome o (λ files. GraphSays (left_by limits t.0) (bytes_of files f.more.now) (Ok u.0))) r.held says;
        in_keys = subst (λ o. IfSome o (λ files. KeyFileSays limits (bytes_of files f.keys.now) (Ok k.key_list))) (m.held ∙ r.held) k.ensures.says;
        left = file_left_first g.S.Shelf a.shelf.now c.read_more_rows.new.shelf c.read_keys.new.shelf limits last ((Graph, f.graph.now) ∷ (More, f.more.now) ∷ []) Keys f.keys.now two limits.key_bytes k.ensures.left;
      },
    )

pub returns-clause-few : goal.returns-clause-few
returns-clause-few g c =
    let t = c.in_ok-first.ensures.gives.1 in
    let u = c.in-Ok.ensures.gives.1 in
    let e = c.left_by-left.ensures t.0 t.1.stand in
    let n = ap (λ (l : Limits). l.triples) e in
    let both = length-append t.0 u.0 in
    (t.0 ++ u.0, u.1.stand t.0 t.1.stand, omega (arith, n, both, t.1.few, u.1.few, c.requires.triples))
