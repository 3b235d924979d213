-- The two files are those of the demo.
use Rattle.std.proofs.Common.{List, [], ◌∷◌, ◌++◌, ℕ, Vec, Global, vec_items, ◌≡◌, ◌∙◌, ap}
use Rattle.gk_io.specs.Files.{contents_of}
use Rattle.demo_graph.specs.DemoTexts.{demo_graph_text, demo_keys_text}
use Rattle.gkey_cmd.specs.Commands.{demo_graph_name, demo_keys_name}
use Rattle.gkey_cmd.specs.Demo.{demo_files}
use Rattle.gkey_cmd.proofs.demo_command.demo_shelf.Goals as goal

are_demo_files : (n : ℕ) (files : List (List ℕ × Vec ℕ Global)) (g k : List ℕ) (graph keys : Vec ℕ Global) → files ≡ (g, graph) ∷ (k, keys) ∷ [] →
    g ≡ demo_graph_name → k ≡ demo_keys_name → vec_items graph ≡ demo_graph_text n → vec_items keys ≡ demo_keys_text → contents_of files ≡ demo_files n
unfolding demo_files
are_demo_files n files g k graph keys both by_graph by_keys is_graph is_keys = ap contents_of both ∙ (λ i. (by_graph i, is_graph i) ∷ (by_keys i, is_keys i) ∷ [])

pub returns : goal.returns
returns c =
    let g = c.in_ok-from_bytes.field-0 in
    let k = c.in_ok-from_bytes-2.field-0 in
    let graph = c.in_ok-graph.graph in
    let keys = c.in_ok-graph.keys in
    let one = c.in_ok-push.ensures.items ∙ ap (λ (files : List (List ℕ × Vec ℕ Global)). files ++ (g, graph) ∷ []) c.in_ok-files.ensures.items in
    let two = c.in_ok-push-2.ensures.items ∙ ap (λ (files : List (List ℕ × Vec ℕ Global)). files ++ (k, keys) ∷ []) one in
    c.new.ensures.files ∙ are_demo_files c.args.n _ g k graph keys two c.in_ok-from_bytes.ensures c.in_ok-from_bytes-2.ensures c.in_ok-graph.ensures.graph c.in_ok-graph.ensures.keys
