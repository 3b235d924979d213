-- A file is not to be had, or both are read, and the words and the chase come next.
use Rattle.std.proofs.Common.{refl}
use Rattle.std.proofs.lemmas.Result.{err_from_is_err_and}
use Rattle.gkey_cmd.specs.Commands.{Explaining}
use Rattle.gkey_cmd.proofs.Deciding.{ends_alike, explain_ended}
use Rattle.gkey_cmd.proofs.why_command.why_command.Goals as goal

pub returns-in_err-read : goal.returns-in_err-read
returns-in_err-read g c =
    let a = c.args in
    let w = a.words.now in
    let k = c.from_residual in
    let p = err_from_is_err_and k.result k.ensures.1 in
    let f = c.in_err-read in
    rw (p.1, p.2) (ends_alike g.S.Shelf a.shelf.now c.read_graph_and_keys.new.shelf a.options.now.limits.now w.files.graph.now w.files.keys.now
    (Explaining w.files.graph.now w.files.keys.now w.first.now w.second.now) refl (λ refusal h. h) f.field-0.0 f.ensures.before f.ensures.ends)

pub returns : goal.returns
returns g c =
    let a = c.args in
    let w = a.words.now in
    let r = c.in_ok-read.ensures.read in
    let t = r.1 in
    explain_ended g.S.Shelf a.shelf.now c.read_graph_and_keys.new.shelf a.options.now.limits.now w.files.graph.now w.files.keys.now r.0 c.in_ok-read.read.keys t.count
    t.in_graph t.in_keys t.left w.first.now w.second.now c.why_text.result (c.why_text.ensures r.0 t.stand)
