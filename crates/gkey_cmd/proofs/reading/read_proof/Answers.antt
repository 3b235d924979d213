-- What was judged of the first bytes is true of the file.
use Rattle.std.proofs.lemmas.Result.{err_from_is_err_and}
use Rattle.gkey_cmd.proofs.Fronts.{proof_loaded, file_left, proof_end}
use Rattle.gkey_cmd.proofs.reading.read_proof.Goals as goal

pub returns-in_err-proof-clause-ends : goal.returns-in_err-proof-clause-ends
returns-in_err-proof-clause-ends g c =
    let o = c.in-Ok.ensures in
    let k = c.from_residual in
    let p = err_from_is_err_and k.result k.ensures.1 in
    let left = file_left (g.S.Shelf.asked c.load.new.shelf) (g.S.Shelf.held c.args.shelf.now) (g.S.Shelf.rest c.load.new.shelf) c.args.name.now c.args.limits.now.bytes _ o.asked o.within o.left in
    rw (p.1, p.2) (proof_end g.S.Shelf c.args.shelf.now c.load.new.shelf c.args.limits.now c.args.name.now _ _ c.in_err-proof.field-0.0 o.count o.bytes c.deref.ensures.value left c.in_err-proof.ensures.says)

pub returns-clause-says : goal.returns-clause-says
returns-clause-says g c =
    proof_loaded (g.S.Shelf.held c.args.shelf.now) _ c.args.name.now _ _ _ c.in-Ok.ensures.bytes c.deref.ensures.value c.in_ok-proof.ensures.says

pub returns-clause-left : goal.returns-clause-left
returns-clause-left g c =
    let o = c.in-Ok.ensures in
    file_left (g.S.Shelf.asked c.load.new.shelf) (g.S.Shelf.held c.args.shelf.now) (g.S.Shelf.rest c.load.new.shelf) c.args.name.now c.args.limits.now.bytes _ o.asked o.within o.left
