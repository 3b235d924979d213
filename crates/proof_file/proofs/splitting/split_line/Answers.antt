use Rattle.std.proofs.Common.{◌<◌, length, slice_index, arith}
use Rattle.proof_file.proofs.SplitLemmas.{run_whole, split_pair, split_one, utf8_parts, utf8_parts_two, end_ascii}
use Rattle.proof_file.proofs.splitting.split_line.Goals as goal
use Rattle.proof_file.proofs.splitting.split_line.Goals.{else-text-end-eq13-via-then-text-end-eq13+then-end-text-2+else-text-end-eq10, else-text-end-eq13-via-then-text-end-eq13+else-end-text-2, else-text-end-eq13-via-else-text-end-eq13}

pub returns-then-end-text-clause-none : goal.returns-then-end-text-clause-none
returns-then-end-text-clause-none c = run_whole c.args.text.now c.line_run-end.result c.line_run-end.ensures c.if-end-text.true

pub returns-then-text-end-eq10-clause-some : goal.returns-then-text-end-eq10-clause-some
returns-then-text-end-eq10-clause-some c =
    split_pair c.args.text.now c.line_run-end.result c.line_run-end.ensures c.if-text-end-eq13.true c.if-end-text-2.true c.if-text-end-eq10.true

pub returns-clause-some : goal.returns-clause-some
returns-clause-some c =
    let run = c.line_run-end.ensures in
    split_one c.args.text.now c.line_run-end.result run (omega (arith, run.in_range, c.if-end-text.false)) (λ return inside feed.
    elim c.else-text-end-eq13.branch [
      | else-text-end-eq13-via-then-text-end-eq13+then-end-text-2+else-text-end-eq10 w ↦ w.if-text-end-eq10.false feed
      | else-text-end-eq13-via-then-text-end-eq13+else-end-text-2 w ↦ omega (arith, inside, w.if-end-text-2.false)
      | else-text-end-eq13-via-else-text-end-eq13 w ↦ w.if-text-end-eq13.false return
    ])

pub returns-then-text-end-eq10-clause-utf8 : goal.returns-then-text-end-eq10-clause-utf8
returns-then-text-end-eq10-clause-utf8 c =
    let first = c.if-text-end-eq13.true in
    let second = c.if-text-end-eq10.true in
    utf8_parts_two c.args.text.now c.line_run-end.result c.if-end-text-2.true (omega arith) (omega arith)

pub returns-clause-utf8 : goal.returns-clause-utf8
returns-clause-utf8 c =
    let run = c.line_run-end.ensures in
    let inside : c.line_run-end.result < length c.args.text.now = omega (arith, run.in_range, c.if-end-text.false) in
    utf8_parts c.args.text.now c.line_run-end.result inside (end_ascii (slice_index c.args.text.now c.line_run-end.result) (run.stops inside))
