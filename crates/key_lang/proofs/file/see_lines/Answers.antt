use Rattle.std.proofs.Common.{◌≡◌, ℕ, ◌<◌, Bool, false, ◌&&◌, eqb, List, length, get_or, slice_range, Err, None, sym, ap, ◌∙◌, subst, arith}
use Rattle.std.proofs.lemmas.Bool.{and_left, and_right, ne_eqb}
use Rattle.std.proofs.lemmas.Result.{err_from_is_err_and}
use Rattle.gk_base.specs.Answers.{IsSo}
use Rattle.nt_lex.specs.Scans.{IsRunAt}
use Rattle.nt_reader.specs.Lines.{is_line_byte}
use Rattle.nt_reader.proofs.CallerLemmas.{length-range}
use Rattle.key_file.specs.KeyShape.{KeyShape}
use Rattle.key_lang.specs.Answers.{KeyStop}
use Rattle.gk_base.specs.declared.stop.Stop.TheVariants.{NoMemory, Fault}
use Rattle.key_lang.specs.OpenKey.{KeyState}
use Rattle.key_lang.specs.declared.file.Seen.{Seen}
use Rattle.key_lang.specs.Seen.{NumberedSays, SeesLines}
use Rattle.key_lang.proofs.SeenLemmas.{IsAt, at_start, at_feed, at_line, at_fault, at_end, at_rest}
use Rattle.key_lang.proofs.file.see_lines.Goals as goal
use Rattle.key_lang.proofs.file.see_lines.Goals.{else-lines-test, then-lines-test+else-after_return+then-end-front, else-after_return-via-then-after_return+else-front-from-eq10, else-after_return-via-else-after_return}

-- where the run is empty, the byte that ends it is not the line feed of a CR LF
owned : (front : List ℕ) (from end : ℕ) (returned : Bool) → IsRunAt is_line_byte front from end → (get_or front from 0 ≡ 10 → ⊥)
    → length (slice_range front from end) ≡ 0 → (eqb (get_or front end 0) 0x0A && returned) ≡ false
owned front from end returned run not z =
    let same : from ≡ end = omega (arith, length-range front from end run.in_range, z, run.ordered) in
    and_left _ _ (ne_eqb _ _ (λ is. not (ap (λ n. get_or front n 0) same ∙ is)))

fault_so : (front : List ℕ) (from number end : ℕ) (returned : Bool) (state : KeyState) → IsAt front from number returned state → IsRunAt is_line_byte front from end → end < length front
    → (length (slice_range front from end) ≡ 0 → (eqb (get_or front end 0) 0x0A && returned) ≡ false)
    → (stop : KeyStop) → IsSo (NumberedSays state (slice_range front from end) number) (Err stop) → IsSo (SeesLines front) (Err stop)
fault_so front from number end returned state a run inside own NoMemory j = tt
fault_so front from number end returned state a run inside own (Fault refusal) j = at_fault front from number returned state a end run inside own refusal j.0 j.1

pub lines-init : goal.lines-init
lines-init c =
    let at : List KeyShape → Type 0 = λ keys. let s : KeyState = record { keys = keys; current = None } in IsAt c.args.front.now 0 1 false s in
    subst at (sym c.new.ensures) (at_start c.args.front.now)

pub lines-preserved-then-front-from-eq10 : goal.lines-preserved-then-front-from-eq10
lines-preserved-then-front-from-eq10 c =
    at_feed c.args.front.now c.lines.from c.lines.number c.lines.after_return c.lines.state c.lines.invariant c.if-after_return.true c.lines-test.true c.if-front-from-eq10.true

pub returns-in_err-state : goal.returns-in_err-state
returns-in_err-state c =
    let front = c.args.front.now in
    let from = c.lines.from in
    let end = c.line_run-end.result in
    let run = c.line_run-end.ensures in
    let p = err_from_is_err_and c.from_residual.result c.from_residual.ensures.1 in
    rw (p.1, p.2)
    (fault_so front from c.lines.number end c.lines.after_return c.lines.state c.lines.invariant run (omega (arith, run.in_range, c.if-end-front.false))
    (λ z. elim c.else-after_return.branch [
      | else-after_return-via-then-after_return+else-front-from-eq10 w ↦ owned front from end c.lines.after_return run w.if-front-from-eq10.false z
      | else-after_return-via-else-after_return w ↦ and_right _ _ w.if-after_return.false
    ]) c.in_err-state.field-0.0 c.in_err-state.ensures)

pub lines-preserved : goal.lines-preserved
lines-preserved c =
    let front = c.args.front.now in
    let from = c.lines.from in
    let end = c.line_run-end.result in
    let run = c.line_run-end.ensures in
    at_line front from c.lines.number c.lines.after_return c.lines.state c.lines.invariant end run (omega (arith, run.in_range, c.if-end-front.false))
    (λ z. elim c.else-after_return.branch [
      | else-after_return-via-then-after_return+else-front-from-eq10 w ↦ owned front from end c.lines.after_return run w.if-front-from-eq10.false z
      | else-after_return-via-else-after_return w ↦ and_right _ _ w.if-after_return.false
    ]) c.in_ok-state.state c.in_ok-state.ensures

pub returns : goal.returns
returns c =
    let front = c.args.front.now in
    let with : Bool → Seen = λ r. record { state = c.lines.state; number = c.lines.number; from = c.lines.from; after_return = r } in
    elim c.lines-test.branch [
      | else-lines-test w ↦
          at_end front c.lines.from c.lines.number c.lines.after_return c.lines.state c.lines.invariant (with c.lines-test.after_return) (ap with w.after_return-is) (omega (arith, w.lines-test.false))
      | then-lines-test+else-after_return+then-end-front w ↦
          at_rest front c.lines.from c.lines.number c.lines.after_return c.lines.state c.lines.invariant (with c.lines-test.after_return) (ap with w.after_return-is) w.lines-test.true
          (subst (IsRunAt is_line_byte front c.lines.from) w.if-end-front.true w.line_run-end.ensures)
    ]
