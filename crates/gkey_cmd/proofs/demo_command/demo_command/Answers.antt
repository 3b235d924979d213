-- The texts are read, and the counts are those of their chase.
use Rattle.std.proofs.Common.{Ok, subst}
use Rattle.gk_io.specs.Files.{bytes_of}
use Rattle.gkey_cmd.specs.Commands.{demo_graph_name, demo_keys_name}
use Rattle.gkey_cmd.specs.Reading.{GraphSays, KeyFileSays}
use Rattle.gkey_cmd.proofs.Deciding.{demo_ended}
use Rattle.gkey_cmd.proofs.demo_command.demo_command.Goals as goal

pub returns : goal.returns
returns g c =
    let limits = c.args.options.now.limits.now in
    let files = c.in_ok-shelf.shelf.files in
    let read = c.in_ok-read.ensures.read in
    let triples = read.0 in
    let key_list = c.in_ok-read.read.keys in
    let in_graph = subst (λ name. GraphSays limits (bytes_of files name) (Ok triples)) c.in_ok-graph.ensures read.1.in_graph in
    let in_keys = subst (λ name. KeyFileSays limits (bytes_of files name) (Ok key_list)) c.in_ok-keys.ensures read.1.in_keys in
    demo_ended c.args.n limits triples key_list
    (subst (λ fs. GraphSays limits (bytes_of fs demo_graph_name) (Ok triples)) c.in_ok-shelf.ensures in_graph)
    (subst (λ fs. KeyFileSays limits (bytes_of fs demo_keys_name) (Ok key_list)) c.in_ok-shelf.ensures in_keys)
    c.demo_text.result (c.demo_text.ensures triples read.1.stand)
