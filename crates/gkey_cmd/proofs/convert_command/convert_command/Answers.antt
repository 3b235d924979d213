-- The proof file is not to be had, or it is and is converted.
use Rattle.std.proofs.Common.{[], refl}
use Rattle.std.proofs.lemmas.Result.{err_from_is_err_and}
use Rattle.gkey_cmd.specs.Commands.{Converting}
use Rattle.gkey_cmd.specs.declared.file.File.TheVariants.{Proof}
use Rattle.gkey_cmd.proofs.Deciding.{read_none, stopped, convert_stops, convert_ended}
use Rattle.gkey_cmd.proofs.convert_command.convert_command.Goals as goal

pub returns-in_err-given : goal.returns-in_err-given
returns-in_err-given g c =
    let a = c.args in
    let e = c.from_residual in
    let p = err_from_is_err_and e.result e.ensures.1 in
    rw (p.1, p.2) (stopped g.S.Shelf a.shelf.now a.shelf.now c.read_proof.new.shelf a.limits.now a.limits.now [] Proof a.proof.now (read_none g.S.Shelf a.shelf.now a.limits.now)
    a.limits.now (λ files refusal h. h) (Converting a.proof.now) [] refl
    (convert_stops g.S.Shelf a.shelf.now c.read_proof.new.shelf a.limits.now [] [] a.proof.now) c.in_err-given.field-0.0 c.in_err-given.ensures.ends)

pub returns-in_err-text : goal.returns-in_err-text
returns-in_err-text g c =
    let e = c.from_residual-in_err-text in
    let p = err_from_is_err_and e.result e.ensures.1 in
    rw (p.1, p.2) c.in_ok-given.ensures.count

pub returns : goal.returns
returns g c =
    let a = c.args in
    let d = c.in_ok-given in
    convert_ended g.S.Shelf a.shelf.now c.read_proof.new.shelf a.limits.now a.proof.now d.given c.in_ok-text.text d.ensures.count d.ensures.says d.ensures.left c.in_ok-text.ensures
