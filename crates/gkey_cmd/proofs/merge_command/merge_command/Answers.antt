-- A file is not to be had, or both are read and the chase runs.
use Rattle.std.proofs.Common.{refl}
use Rattle.std.proofs.lemmas.Result.{err_from_is_err_and}
use Rattle.gkey_cmd.specs.Commands.{Merging}
use Rattle.gkey_cmd.proofs.Deciding.{ends_alike, merge_ended}
use Rattle.gkey_cmd.proofs.merge_command.merge_command.Goals as goal

pub returns-in_err-read : goal.returns-in_err-read
returns-in_err-read g c =
    let a = c.args in
    let graph = a.files.now.graph.now in
    let keys = a.files.now.keys.now in
    let k = c.from_residual in
    let p = err_from_is_err_and k.result k.ensures.1 in
    let f = c.in_err-read in
    rw (p.1, p.2) (ends_alike g.S.Shelf a.shelf.now c.read_graph_and_keys.new.shelf a.options.now.limits.now graph keys (Merging graph keys) refl
    (λ refusal h. h) f.field-0.0 f.ensures.before f.ensures.ends)

pub returns : goal.returns
returns g c =
    let a = c.args in
    let r = c.in_ok-read.ensures.read in
    let t = r.1 in
    merge_ended g.S.Shelf a.shelf.now c.read_graph_and_keys.new.shelf a.options.now.limits.now a.files.now.graph.now a.files.now.keys.now r.0 c.in_ok-read.read.keys t.count
    t.in_graph t.in_keys t.left c.merge_text.result (c.merge_text.ensures r.0 t.stand)
