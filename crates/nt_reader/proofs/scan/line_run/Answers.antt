use Rattle.std.proofs.Common.{◌+◌, ◌<◌, sym, ◌∙◌, subst, arith}
use lib.Count.{count_trailing_zeros}
use Rattle.nt_lex.specs.Scans.{IsRunAt}
use Rattle.nt_lex.proofs.CallerLemmas.{run_ends_in, run_goes_on, run_from}
use Rattle.nt_reader.specs.Lines.{is_line_end, is_line_byte}
use Rattle.nt_reader.proofs.scan.line_run.Goals as goal

pub returns-then-ends-ne0 : goal.returns-then-ends-ne0
returns-then-ends-ne0 c =
    let piece = c.args.piece.now in
    let end = c.loop-end.end in
    let before = c.loop-end.invariant in
    let some : 0 < c.line_ends-ends.result = omega (arith, c.if-ends-ne0.true) in
    subst (λ bits. IsRunAt is_line_byte piece c.args.at (end + count_trailing_zeros 64 bits)) (sym c.line_ends-ends.ensures)
    (run_ends_in is_line_end piece c.args.at end 32 before.0 (omega arith) (omega arith) before.2 (subst (λ bits. 0 < bits) c.line_ends-ends.ensures some))

pub loop-end-preserved : goal.loop-end-preserved
loop-end-preserved c =
    let before = c.loop-end.invariant in (
      omega arith,
      omega arith,
      run_goes_on is_line_end c.args.piece.now c.args.at c.loop-end.end 32 (omega arith) before.2 (sym c.line_ends-ends.ensures ∙ c.if-ends-ne0.false),
    )

pub returns : goal.returns
returns c =
    let before = c.loop-end.invariant in
    run_from is_line_byte c.args.piece.now c.args.at c.loop-end.end c.line_run_slowly.result before.0 before.2 c.line_run_slowly.ensures
