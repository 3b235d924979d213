-- All three files are read, and the two chases run.
use Rattle.std.proofs.Common.{◌++◌}
use Rattle.gkey_cmd.proofs.Growing.{grow_ended}
use Rattle.gkey_cmd.proofs.grow_command.grow_command.Goals as goal

pub returns : goal.returns
returns g c =
    let a = c.args in
    let f = a.files.now in
    let r = c.in_ok-both.ensures.read in
    let t = r.2 in
    grow_ended g.S.Shelf a.shelf.now c.read_graphs_and_keys.new.shelf a.options.now.limits.now f.graph.now f.more.now f.keys.now r.0 r.1 c.in_ok-both.keys t.count
    t.in_graph t.in_more t.in_keys t.left c.grow_text.result (c.grow_text.ensures (r.0 ++ r.1) t.stand)
