use Rattle.std.proofs.Common.{length, sym, subst, eqb-true}
use Rattle.std.proofs.lemmas.Result.{err_from_is_err_and}
use Rattle.proof_file.specs.ReadLines.{HasReadAll}
use Rattle.proof_file.proofs.ReadLemmas.{some_there, no_last, last_good, last_stops}
use Rattle.proof_file.proofs.read_lines.read_last.Goals as goal

pub returns-then-is_empty : goal.returns-then-is_empty
returns-then-is_empty c =
    let read = c.args.lines in
    subst (HasReadAll c.args.terms.now c.args.text.now read.progress) (sym c.saturating_sub.ensures)
    (no_last c.args.terms.now c.args.text.now read.progress read.number read.rest.now read.returned c.requires (eqb-true (length read.rest.now) 0 (sym c.if-is_empty.ensures)))

pub returns-in_err-progress : goal.returns-in_err-progress
returns-in_err-progress c =
    let read = c.args.lines in
    let p = err_from_is_err_and c.from_residual.result c.from_residual.ensures.1 in
    rw (p.1, p.2)
    (last_stops c.args.terms.now c.args.text.now read.progress read.number read.rest.now read.returned c.requires c.judge.new.terms c.in_err-progress.field-0.0 (some_there (length read.rest.now) c.if-is_empty.ensures)
    c.in_err-progress.ensures)

pub returns : goal.returns
returns c =
    let read = c.args.lines in
    last_good c.args.terms.now c.args.text.now read.progress read.number read.rest.now read.returned c.requires c.judge.new.terms c.in_ok-progress.progress (some_there (length read.rest.now) c.if-is_empty.ensures)
    c.in_ok-progress.ensures.0 c.in_ok-progress.ensures.1
