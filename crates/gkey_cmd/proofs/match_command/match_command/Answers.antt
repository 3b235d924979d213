-- Both files are read, and the chase runs.
use Rattle.gkey_cmd.proofs.Deciding.{match_ended}
use Rattle.gkey_cmd.proofs.match_command.match_command.Goals as goal

pub returns : goal.returns
returns g c =
    let a = c.args in
    let r = c.in_ok-read.ensures.read in
    let t = r.1 in
    match_ended g.S.Shelf a.shelf.now c.read_graph_and_keys.new.shelf a.options.now.limits.now a.files.now.graph.now a.files.now.keys.now r.0 c.in_ok-read.read.keys t.count
    t.in_graph t.in_keys t.left c.match_text.result (c.match_text.ensures r.0 t.stand)
