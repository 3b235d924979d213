use Rattle.std.proofs.Common.{◌+◌, ◌<◌, sym, ◌∙◌, subst, arith}
use lib.Count.{count_trailing_zeros}
use Rattle.nt_lex.specs.Chars.{is_string_plain, is_string_excluded}
use Rattle.nt_lex.specs.Scans.{IsRunAt}
use Rattle.nt_lex.proofs.LaneLemmas.{run_ends_in, run_goes_on, run_from}
use Rattle.nt_lex.proofs.scan.string_run.Goals as goal

pub returns-then-stops-ne0 : goal.returns-then-stops-ne0
returns-then-stops-ne0 c =
    let line = c.args.line.now in
    let end = c.loop-end.end in
    let before = c.loop-end.invariant in
    let some : 0 < c.string_stops-stops.result = omega (arith, c.if-stops-ne0.true) in
    subst (λ bits. IsRunAt is_string_plain line c.args.at (end + count_trailing_zeros 64 bits)) (sym c.string_stops-stops.ensures)
    (run_ends_in is_string_excluded line c.args.at end 16 before.0 (omega arith) (omega arith) before.2 (subst (λ bits. 0 < bits) c.string_stops-stops.ensures some))

pub loop-end-preserved : goal.loop-end-preserved
loop-end-preserved c =
    let before = c.loop-end.invariant in (
      omega arith,
      omega arith,
      run_goes_on is_string_excluded c.args.line.now c.args.at c.loop-end.end 16 (omega arith) before.2 (sym c.string_stops-stops.ensures ∙ c.if-stops-ne0.false),
    )

pub returns : goal.returns
returns c =
    let before = c.loop-end.invariant in
    run_from is_string_plain c.args.line.now c.args.at c.loop-end.end c.string_run_slowly.result before.0 before.2 c.string_run_slowly.ensures
