use Rattle.std.proofs.Common.{◌≡◌, ℕ, ◌+◌, ◌-◌, ◌<◌, ◌≤◌, Bool, true, false, ◌&&◌, eqb, List, [], ◌∷◌, ◌++◌, length, get_or, take, drop, slice_range, refl, sym, ap, ◌∙◌, arith, append_assoc}
use Rattle.std.proofs.lemmas.Bool.{ne_eqb}
use Rattle.std.proofs.lemmas.List.{take_more, take_all, take-append-drop}
use Rattle.std.specs.List.{AllPass}
use Rattle.gk_base.specs.declared.limits.Limits.{Limits}
use Rattle.gk_base.specs.declared.term.Triple.{Triple}
use Rattle.gk_base.specs.Answers.{ReadStop, IsSo}
use Rattle.gk_base.specs.declared.stop.Stop.TheVariants.{NoMemory, Fault}
use Rattle.std.proofs.Common.{Err}
use Rattle.std.proofs.lemmas.Result.{err_from_is_err_and}
use Rattle.nt_reader.specs.Lines.{is_line_byte}
use Rattle.nt_reader.specs.declared.state.State.{State}
use Rattle.nt_reader.specs.Judged.{Judges}
use Rattle.nt_reader.specs.Reading.{front_of}
use Rattle.nt_reader.specs.Kept.{IsFrontOf, IsStopped}
use Rattle.nt_reader.proofs.StateLemmas.{take_part, take_line, length-range, range_passes, stands_swallow, stands_part, stands_line, stops_line, stopped_more, moved}
use Rattle.nt_reader.proofs.state.take.Goals as goal
use Rattle.nt_reader.proofs.state.take.Goals.{else-state-via-then-state+else-piece-from-eq10, else-state-via-else-state}

pub lines-preserved-then-piece-from-eq10 : goal.lines-preserved-then-piece-from-eq10
lines-preserved-then-piece-from-eq10 c =
    let piece = c.args.piece.now in
    let from = c.lines.from in
    let old = c.lines.state in
    let inside : from < length piece = c.lines-test.true in
    let room : old.bytes + 1 ≤ c.args.limits.now.bytes = omega (arith, c.requires.room, c.lines.invariant.bytes) in
    record {
      inside = omega arith;
      bytes = omega (arith, c.lines.invariant.bytes);
      line = omega (arith, c.lines.invariant.line);
      stands = λ taken seen s.
          let step = stands_swallow c.args.limits.now old taken (seen ++ take from piece) (c.lines.invariant.stands taken seen s)
          (record { triples = old.triples; room = old.room; kept = old.kept; bytes = old.bytes + 1; line = old.line; after_return = false })
          c.if-state.true room refl refl refl refl refl refl in
          moved c.args.limits.now _ taken _ _
          (append_assoc seen (take from piece) (0x0A ∷ []) ∙ ap (λ (l : List ℕ). seen ++ l)
          (ap (λ b. take from piece ++ b ∷ []) (sym c.if-piece-from-eq10.true) ∙ sym (take_more piece from 0 inside))) step;
    }

pub returns-then-end-piece-clause-takes : goal.returns-then-end-piece-clause-takes
returns-then-end-piece-clause-takes c =
    let piece = c.args.piece.now in
    let from = c.lines.from in
    let end = c.line_run-end.result in
    let old = c.lines.state in
    let seg = slice_range piece from end in
    let run = c.line_run-end.ensures in
    let long = length-range piece from end run.in_range in
    λ taken seen s.
    let step = stands_part c.args.limits.now old taken (seen ++ take from piece) (c.lines.invariant.stands taken seen s)
    (record { triples = old.triples; room = old.room; kept = c.extend_from_slice.new.self; bytes = old.bytes + (end - from); line = old.line; after_return = false })
    seg (range_passes is_line_byte piece from end run.in_range run.pass)
    (omega (arith, long, c.lines-test.true, c.if-end-piece.true))
    (omega (arith, long, c.requires.room, c.lines.invariant.bytes, run.ordered, run.in_range))
    (ap (λ n. old.bytes + n) (sym long)) c.in_ok-extend_from_slice.ensures.items refl refl refl refl in
    moved c.args.limits.now _ taken _ _
    (append_assoc seen (take from piece) seg ∙ ap (λ (l : List ℕ). seen ++ l) (sym (take_part piece from end run.ordered) ∙ take_all end piece (omega (arith, c.if-end-piece.true)))) step

stopped : (limits : Limits) (old : State) (taken : List Triple) (seen : List ℕ) (s : IsFrontOf limits (front_of old) taken seen) (seg : List ℕ) (b : ℕ) (p : AllPass is_line_byte seg) (e : is_line_byte b ≡ false)
    (own : length seg ≡ 0 → (eqb b 0x0A && old.after_return) ≡ false) (room : old.bytes + length seg + 1 ≤ limits.bytes) (new : List Triple) (stop : ReadStop)
    → IsSo (Judges {A = Unit {0}} old.room old.triples new (old.kept.items ++ seg) old.line) (Err stop) → IsStopped limits (seen ++ (seg ++ b ∷ [])) stop
stopped limits old taken seen s seg b p e own room new NoMemory j = tt
stopped limits old taken seen s seg b p e own room new (Fault r) j = stops_line limits old taken seen s seg b p e own room r j

and_false : (x : Bool) → (x && false) ≡ false
and_false true = refl
and_false false = refl

and_first : (x y : Bool) → x ≡ false → (x && y) ≡ false
and_first true y e = absurd (cc)
and_first false y e = refl

pub returns-in_err-end_line-clause-takes : goal.returns-in_err-end_line-clause-takes
returns-in_err-end_line-clause-takes c =
    let limits = c.args.limits.now in
    let piece = c.args.piece.now in
    let from = c.lines.from in
    let end = c.line_run-end.result in
    let old = c.lines.state in
    let seg = slice_range piece from end in
    let run = c.line_run-end.ensures in
    let long = length-range piece from end run.in_range in
    let inside : end < length piece = omega (arith, run.in_range, c.if-end-piece.false) in
    let own : length seg ≡ 0 → (eqb (get_or piece end 0) 0x0A && old.after_return) ≡ false = λ z.
    let same : from ≡ end = omega (arith, long, z, run.ordered) in
    elim c.else-state.branch [
      | else-state-via-then-state+else-piece-from-eq10 w ↦
          and_first _ _ (ne_eqb _ _ (λ is. w.if-piece-from-eq10.false (ap (λ n. get_or piece n 0) same ∙ is)))
      | else-state-via-else-state w ↦ ap (λ r. eqb (get_or piece end 0) 0x0A && r) w.if-state.false ∙ and_false _
    ]
    in
    let p = err_from_is_err_and c.from_residual-in_err-end_line.result c.from_residual-in_err-end_line.ensures.1 in
    rw (p.1, p.2)
    (λ taken seen s.
    let one = stopped limits old taken (seen ++ take from piece) (c.lines.invariant.stands taken seen s) seg (get_or piece end 0)
    (range_passes is_line_byte piece from end run.in_range run.pass) (run.stops inside) own
    (omega (arith, long, inside, c.requires.room, c.lines.invariant.bytes, run.ordered)) c.end_line.new.state.triples c.in_err-end_line.field-0.0 c.in_err-end_line.ensures.judged in
    stopped_more limits _ (seen ++ piece) (drop (end + 1) piece) c.in_err-end_line.field-0.0
    (ap (λ (l : List ℕ). l ++ drop (end + 1) piece) (append_assoc seen (take from piece) (seg ++ get_or piece end 0 ∷ []) ∙ ap (λ (l : List ℕ). seen ++ l) (sym (take_line piece from end run.ordered inside)))
    ∙ append_assoc seen (take (end + 1) piece) (drop (end + 1) piece) ∙ ap (λ (l : List ℕ). seen ++ l) (take-append-drop (end + 1) piece)) one)

pub lines-preserved : goal.lines-preserved
lines-preserved c =
    let limits = c.args.limits.now in
    let piece = c.args.piece.now in
    let from = c.lines.from in
    let end = c.line_run-end.result in
    let old = c.lines.state in
    let seg = slice_range piece from end in
    let run = c.line_run-end.ensures in
    let long = length-range piece from end run.in_range in
    let inside : end < length piece = omega (arith, run.in_range, c.if-end-piece.false) in
    let own : length seg ≡ 0 → (eqb (get_or piece end 0) 0x0A && old.after_return) ≡ false = λ z.
    let same : from ≡ end = omega (arith, long, z, run.ordered) in
    elim c.else-state.branch [
      | else-state-via-then-state+else-piece-from-eq10 w ↦
          and_first _ _ (ne_eqb _ _ (λ is. w.if-piece-from-eq10.false (ap (λ n. get_or piece n 0) same ∙ is)))
      | else-state-via-else-state w ↦ ap (λ r. eqb (get_or piece end 0) 0x0A && r) w.if-state.false ∙ and_false _
    ]
    in
    let e = c.in_ok-end_line.ensures in
    record {
      inside = omega arith;
      bytes = omega (arith, e.bytes, c.lines.invariant.bytes, run.ordered);
      line = omega (arith, e.line, e.bytes, c.lines.invariant.line);
      stands = λ taken seen s.
          let one = stands_line limits old taken (seen ++ take from piece) (c.lines.invariant.stands taken seen s) seg (get_or piece end 0)
          (range_passes is_line_byte piece from end run.in_range run.pass) (run.stops inside) own
          (omega (arith, long, inside, c.requires.room, c.lines.invariant.bytes, run.ordered))
          (record { triples = c.end_line.new.state.triples; room = c.end_line.new.state.room; kept = c.end_line.new.state.kept; bytes = c.end_line.new.state.bytes + 1; line = c.end_line.new.state.line + 1; after_return = eqb (get_or piece end 0) 13 })
          e.judged (omega (arith, e.bytes, long)) e.kept (omega (arith, e.line)) refl e.room in
          moved limits _ taken _ _ (append_assoc seen (take from piece) (seg ++ get_or piece end 0 ∷ []) ∙ ap (λ (l : List ℕ). seen ++ l) (sym (take_line piece from end run.ordered inside))) one;
    }

pub returns-clause-takes : goal.returns-clause-takes
returns-clause-takes c =
    let piece = c.args.piece.now in
    let from = c.lines.from in
    let over : length piece ≤ from = omega (arith, c.lines-test.false) in
    λ taken seen s.
    moved c.args.limits.now _ taken _ _ (ap (λ (l : List ℕ). seen ++ l) (take_all from piece over)) (c.lines.invariant.stands taken seen s)
