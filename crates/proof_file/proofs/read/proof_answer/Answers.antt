use Rattle.std.proofs.Common.{Err, sym, subst}
use Rattle.std.proofs.lemmas.Result.{err_from_is_err_and}
use Rattle.proof_file.specs.ProofText.{proof_ended, ProofSays}
use Rattle.proof_file.specs.declared.fault.ProofFault.TheVariants.{FileTooLong}
use Rattle.proof_file.specs.Progress.{stage_with, progress_with}
use Rattle.proof_file.specs.ReadLines.{HasReadLines}
use Rattle.proof_file.proofs.ReadLemmas.{long_says, short_good, front_stops, short_stops, ended_so}
use Rattle.proof_file.proofs.read.proof_answer.Goals as goal

pub returns-in_err-lines : goal.returns-in_err-lines
returns-in_err-lines c =
    let p = err_from_is_err_and c.from_residual.result c.from_residual.ensures.1 in
    rw (p.1, p.2) (front_stops c.read_lines.new.terms c.args.limit c.args.bytes.now c.front.result.now c.in_err-lines.field-0.0 c.front.ensures c.in_err-lines.ensures)

pub returns-then-limit-bytes : goal.returns-then-limit-bytes
returns-then-limit-bytes c =
    let limit = c.args.limit in
    let bytes = c.args.bytes.now in
    let read = c.in_ok-lines.lines in
    subst (λ n. ProofSays limit bytes (Err (record { line = n; fault = FileTooLong }))) (sym c.next_line.ensures)
    (long_says c.read_lines.new.terms limit bytes read.progress read.number read.rest.now read.returned
    (subst (λ front. HasReadLines c.read_lines.new.terms front read.progress read.number read.rest.now read.returned) c.front.ensures c.in_ok-lines.ensures) c.if-limit-bytes.true)

pub returns-in_err-progress : goal.returns-in_err-progress
returns-in_err-progress c =
    let p = err_from_is_err_and c.from_residual-in_err-progress.result c.from_residual-in_err-progress.ensures.1 in
    rw (p.1, p.2) (short_stops c.read_last.new.terms c.args.limit c.args.bytes.now c.in_err-progress.field-0.0 c.if-limit-bytes.false c.in_err-progress.ensures)

pub returns : goal.returns
returns c =
    let limit = c.args.limit in
    let bytes = c.args.bytes.now in
    let names = c.read_last.new.terms in
    let progress = c.in_ok-progress.progress in
    let last = c.in_ok-progress.last in
    ended_so limit bytes (proof_ended (progress_with names progress) (stage_with names progress.stage) last) c.proof_of.result (short_good limit bytes c.if-limit-bytes.false names progress last c.in_ok-progress.ensures) c.proof_of.ensures
