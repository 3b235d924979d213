-- A file is not to be had, or all three are and the checker looks at the proof.
use Rattle.std.proofs.Common.{[], ◌∷◌, Ok, IfSome, refl, sym, subst, ◌∙◌}
use Rattle.std.proofs.lemmas.Result.{err_from_is_err_and}
use Rattle.gk_io.specs.Files.{bytes_of}
use Rattle.graph_rows.proofs.CallerLemmas.{told_more}
use Rattle.proof_check.specs.Ready.{IsReady}
use Rattle.gkey_cmd.specs.Commands.{Checking}
use Rattle.gkey_cmd.specs.Check.{IsChecked}
use Rattle.gkey_cmd.specs.Reading.{KeyFileSays, ProofFileSays, left_by, IsAcceptedLeaving}
use Rattle.gkey_cmd.specs.declared.file.File.TheVariants.{Graph, Keys, Proof}
use Rattle.gkey_cmd.proofs.Deciding.{read_none, read_next, graph_read, file_left_first, keys_judged, proof_judged, stopped, graph_ends, check_stops_at_graph, check_stops_at_keys, check_stops_at_proof, check_ended}
use Rattle.gkey_cmd.proofs.check_command.check_command.Goals as goal

pub returns-in_err-rows : goal.returns-in_err-rows
returns-in_err-rows g c =
    let a = c.args in
    let k = c.from_residual in
    let p = err_from_is_err_and k.result k.ensures.1 in
    let none = read_none g.S.Shelf a.shelf.now a.limits.now in
    rw (p.1, p.2) (stopped g.S.Shelf a.shelf.now a.shelf.now c.read_rows.new.shelf a.limits.now a.limits.now [] Graph a.files.now.graph.now none a.limits.now (λ files refusal h. h)
    (Checking a.files.now.graph.now a.files.now.keys.now a.files.now.proof.now) ((Keys, a.files.now.keys.now) ∷ (Proof, a.files.now.proof.now) ∷ []) refl
    (check_stops_at_graph g.S.Shelf a.shelf.now c.read_rows.new.shelf a.limits.now a.files.now.graph.now a.files.now.keys.now a.files.now.proof.now) _
    (graph_ends g.S.Shelf a.shelf.now c.read_rows.new.shelf a.limits.now a.files.now.graph.now c.in_err-rows.field-0.0 c.in_err-rows.ensures.gives))

pub returns-in_err-keys : goal.returns-in_err-keys
returns-in_err-keys g c =
    let a = c.args in
    let k = c.from_residual-in_err-keys in
    let p = err_from_is_err_and k.result k.ensures.1 in
    let r = c.in_ok-rows.ensures in
    let t = c.in_ok-rows.ensures.gives.1.0 in
    let one = graph_read g.S.Shelf a.shelf.now c.read_rows.new.shelf a.limits.now a.files.now.graph.now t r.gives.1.1.says r.gives.0 r.held in
    let left = left_by a.limits.now t in
    rw (p.1, p.2) (stopped g.S.Shelf a.shelf.now c.read_rows.new.shelf c.read_keys.new.shelf a.limits.now left ((Graph, a.files.now.graph.now) ∷ []) Keys a.files.now.keys.now one
    a.limits.now (keys_judged a.limits.now left refl a.files.now.keys.now) (Checking a.files.now.graph.now a.files.now.keys.now a.files.now.proof.now) ((Proof, a.files.now.proof.now) ∷ []) refl
    (check_stops_at_keys g.S.Shelf a.shelf.now c.read_keys.new.shelf a.limits.now a.files.now.graph.now a.files.now.keys.now a.files.now.proof.now) c.in_err-keys.field-0.0 c.in_err-keys.ensures.ends)

pub returns-in_err-checker : goal.returns-in_err-checker
returns-in_err-checker g c =
    let a = c.args in
    let e = c.from_residual-in_err-checker in
    let p = err_from_is_err_and e.result e.ensures.1 in
    let r = c.in_ok-rows.ensures in
    let t = c.in_ok-rows.ensures.gives.1.0 in
    let k = c.in_ok-keys in
    let one = graph_read g.S.Shelf a.shelf.now c.read_rows.new.shelf a.limits.now a.files.now.graph.now t r.gives.1.1.says r.gives.0 r.held in
    let left = left_by a.limits.now t in
    let keys_accepted = told_more (g.S.Shelf.held c.read_rows.new.shelf) (λ files. KeyFileSays a.limits.now (bytes_of files a.files.now.keys.now) (Ok k.keys)) (λ files. IsAcceptedLeaving left files Keys a.files.now.keys.now left)
    (λ files says. (k.keys, says, refl)) k.ensures.says in
    let two = read_next g.S.Shelf a.shelf.now c.read_rows.new.shelf c.read_keys.new.shelf a.limits.now left ((Graph, a.files.now.graph.now) ∷ []) Keys a.files.now.keys.now one left keys_accepted k.ensures.count k.ensures.held in
    rw (p.1, p.2) (stopped g.S.Shelf a.shelf.now c.read_keys.new.shelf c.checker_and_proof.new.shelf a.limits.now left ((Graph, a.files.now.graph.now) ∷ (Keys, a.files.now.keys.now) ∷ []) Proof a.files.now.proof.now two
    a.limits.now (proof_judged a.limits.now left refl a.files.now.proof.now) (Checking a.files.now.graph.now a.files.now.keys.now a.files.now.proof.now) [] refl
    (check_stops_at_proof g.S.Shelf a.shelf.now c.checker_and_proof.new.shelf a.limits.now a.files.now.graph.now a.files.now.keys.now a.files.now.proof.now) c.in_err-checker.field-0.0 c.in_err-checker.ensures.ends)

pub check_text-requires : goal.check_text-requires
check_text-requires g c = c.in_ok-checker.ensures.read.few

pub returns-in_err-answer : goal.returns-in_err-answer
returns-in_err-answer g c =
    let e = c.from_residual-in_err-answer in
    let p = err_from_is_err_and e.result e.ensures.1 in
    rw (p.1, p.2) (c.in_ok-checker.ensures.read.count ∙ c.in_ok-keys.ensures.count ∙ c.in_ok-rows.ensures.gives.0)

pub returns : goal.returns
returns g c =
    let a = c.args in
    let f = a.files.now in
    let r = c.in_ok-rows.ensures in
    let t = r.gives.1.0 in
    let k = c.in_ok-keys in
    let h = c.in_ok-checker in
    let d = h.ensures.read in
    let answer = c.in_ok-answer.answer in
    let ready = subst (IsReady h.checker t) (sym h.ensures.keys) (h.ensures.ready t r.gives.1.1.stand) in
    let checked = subst (λ keys. IsChecked t keys h.told answer.0 answer.1.items) h.ensures.keys (c.in_ok-answer.ensures t ready) in
    let in_keys = subst (λ o. IfSome o (λ files. KeyFileSays a.limits.now (bytes_of files f.keys.now) (Ok k.keys))) r.held k.ensures.says in
    let in_proof = subst (λ o. IfSome o (λ files. ProofFileSays a.limits.now (bytes_of files f.proof.now) (Ok h.told))) (k.ensures.held ∙ r.held) d.in_proof in
    let one = graph_read g.S.Shelf a.shelf.now c.read_rows.new.shelf a.limits.now f.graph.now t r.gives.1.1.says r.gives.0 r.held in
    let left = left_by a.limits.now t in
    let keys_accepted = told_more (g.S.Shelf.held c.read_rows.new.shelf) (λ files. KeyFileSays a.limits.now (bytes_of files f.keys.now) (Ok k.keys)) (λ files. IsAcceptedLeaving left files Keys f.keys.now left)
    (λ files says. (k.keys, says, refl)) k.ensures.says in
    let two = read_next g.S.Shelf a.shelf.now c.read_rows.new.shelf c.read_keys.new.shelf a.limits.now left ((Graph, f.graph.now) ∷ []) Keys f.keys.now one left keys_accepted k.ensures.count k.ensures.held in
    let proof_left = file_left_first g.S.Shelf a.shelf.now c.read_keys.new.shelf c.checker_and_proof.new.shelf a.limits.now left ((Graph, f.graph.now) ∷ (Keys, f.keys.now) ∷ []) Proof f.proof.now two a.limits.now.bytes d.left in
    check_ended g.S.Shelf a.shelf.now c.checker_and_proof.new.shelf a.limits.now f.graph.now f.keys.now t k.keys (d.count ∙ k.ensures.count ∙ r.gives.0)
    r.gives.1.1.says in_keys f.proof.now h.told in_proof proof_left answer.0 answer.1 checked
