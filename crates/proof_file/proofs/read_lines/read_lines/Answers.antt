use Rattle.std.proofs.Common.{length, refl, sym, ap, subst, ◌∙◌, arith}
use Rattle.std.proofs.lemmas.Result.{err_from_is_err_and}
use Rattle.proof_file.specs.Progress.{progress_with}
use Rattle.proof_file.proofs.SplitLemmas.{not_returned}
use Rattle.proof_file.proofs.ReadLemmas.{GoesOn, begin_is, begin_below, goes_begin, goes_good, returned_more, lines_stop}
use Rattle.proof_file.proofs.read_lines.read_lines.Goals as goal

pub loop-split-init : goal.loop-split-init
loop-split-init c =
    let bytes = c.args.text.now in
    record {
      on = subst (λ p. GoesOn bytes p 1 bytes) (sym (begin_is c.args.terms.now c.new.result c.new-2.result c.new.ensures.items c.new-2.ensures.items)) (goes_begin bytes);
      last = refl;
      returned = not_returned bytes;
      count = omega arith;
      small = omega arith;
      utf8 = λ known. c.is_utf8-is_utf8.ensures.0 known;
      below = begin_below c.args.terms.now c.new.result c.new-2.result c.new.ensures.items c.new-2.ensures.items;
    }

pub judge-requires-clause-utf8 : goal.judge-requires-clause-utf8
judge-requires-clause-utf8 c = λ known. (c.in-Some.ensures.utf8 (c.loop-split.invariant.utf8 known)).0

pub returns-in_err-progress : goal.returns-in_err-progress
returns-in_err-progress c =
    let split = c.in-Some.split in
    let p = err_from_is_err_and c.from_residual.result c.from_residual.ensures.1 in
    rw (p.1, p.2)
    (lines_stop c.judge.new.terms c.args.text.now c.loop-split.rest.now split.line.now split.rest.now split.returned (progress_with c.loop-split.terms c.loop-split.progress) c.loop-split.number c.in-Some.ensures.some c.loop-split.invariant.on
    c.in_err-progress.field-0.0 c.in_err-progress.ensures)

pub loop-split-preserved : goal.loop-split-preserved
loop-split-preserved c =
    let bytes = c.args.text.now in
    let rest = c.loop-split.rest.now in
    let split = c.in-Some.split in
    let is = c.in-Some.ensures.some in
    let before = c.loop-split.invariant in
    let told = c.in_ok-progress.ensures in
    let number = before.count in
    let one = ap length is.ended in
    let small = before.small in
    let shorter = is.shorter in
    record {
      on = goes_good bytes rest split.line.now split.rest.now split.returned (progress_with c.loop-split.terms c.loop-split.progress) c.loop-split.number is before.on (progress_with c.judge.new.terms c.in_ok-progress.progress) told.0;
      last = before.last ∙ is.last;
      returned = returned_more bytes rest split.line.now split.rest.now c.loop-split.returned split.returned is before.returned;
      count = omega arith;
      small = omega arith;
      utf8 = λ known. (c.in-Some.ensures.utf8 (before.utf8 known)).1;
      below = told.1;
    }
