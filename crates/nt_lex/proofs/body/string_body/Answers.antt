use Rattle.std.proofs.Common.{ℕ, List, [], ◌++◌, refl, sym, ap, subst, ◌∙◌, arith, drop, slice_range}
use Rattle.std.proofs.lemmas.Bool.{not-false}
use Rattle.nt_lex.specs.Chars.{is_string_excluded, is_escape_letter}
use Rattle.nt_lex.specs.Written.{in_string, Stops, EscapeAt}
use Rattle.nt_lex.proofs.CharLemmas.{high_string, low_letter}
use Rattle.nt_lex.proofs.RunningLemmas.{GoesTo, runs_raw, goes_start, goes_run, goes_escape, goes_end, stops_nil, stops_byte, utf_past}
use Rattle.nt_lex.proofs.WrittenLemmas.{utf_after}
use Rattle.nt_lex.proofs.body.string_body.Goals as goal
use Rattle.nt_lex.proofs.body.string_body.Goals.{then-end-line-via-then-end-line, then-end-line-via-else-end-line+then-line-end-ne92, then-escapes-test+else-line-end-eq92, else-escapes-test, then-escapes-test+then-line-end-eq92+in_default}

pub returns-then-end-line : goal.returns-then-end-line
returns-then-end-line c =
    runs_raw is_string_excluded is_escape_letter refl refl refl high_string c.args.line.now c.args.from c.string_run-end.result c.requires.inside c.requires.utf8 c.string_run-end.ensures
    (λ before. elim c.then-end-line.branch [
      | then-end-line-via-then-end-line w ↦ λ is. omega (arith, before, w.if-end-line.true)
      | then-end-line-via-else-end-line+then-line-end-ne92 w ↦ w.if-line-end-ne92.true
    ])

pub escapes-init : goal.escapes-init
escapes-init c =
    let line = c.args.line.now in
    let from = c.args.from in
    let run = c.string_run-end.ensures in
    let start = goes_start is_string_excluded is_escape_letter refl refl refl high_string line from c.requires.inside in
    let first = goes_run is_string_excluded is_escape_letter refl refl refl high_string line from [] from c.string_run-end.result start c.requires.utf8 run in (
      subst (λ t. GoesTo in_string line from t c.string_run-end.result) (sym c.in_ok-text.ensures) first,
      utf_after is_string_excluded is_escape_letter refl refl refl high_string line from c.string_run-end.result c.requires.utf8 run,
      run.stops,
    )

pub escapes-preserved : goal.escapes-preserved
escapes-preserved c =
    let line = c.args.line.now in
    let from = c.args.from in
    let run = c.string_run-end-in-escapes.ensures in
    let found : EscapeAt in_string line c.escapes.end c.in-Some.c c.in-Some.after = c.in-Some.ensures.found in
    let u = utf_past is_string_excluded is_escape_letter low_letter line c.escapes.end c.in-Some.c c.in-Some.after found c.escapes.invariant.1 in
    let one = goes_escape is_string_excluded is_escape_letter refl refl refl high_string line from c.escapes.text.items c.escapes.end c.in-Some.c c.in-Some.after c.escapes.invariant.0 found in
    let two = goes_run is_string_excluded is_escape_letter refl refl refl high_string line from _ c.in-Some.after c.string_run-end-in-escapes.result one u run in (
      subst (λ t. GoesTo in_string line from t c.string_run-end-in-escapes.result) (sym (c.in_ok-extend_from_slice.ensures.items ∙ ap (λ (t : List ℕ). t ++ slice_range line c.in-Some.after c.string_run-end-in-escapes.result) c.in_ok-push_char.ensures)) two,
      utf_after is_string_excluded is_escape_letter refl refl refl high_string line c.in-Some.after c.string_run-end-in-escapes.result u run,
      run.stops,
    )

pub returns : goal.returns
returns c =
    let line = c.args.line.now in
    let end = c.escapes.end in
    let stops : Stops in_string (drop end line) = elim c.escapes-test.branch [
      | then-escapes-test+else-line-end-eq92 w ↦
          stops_byte is_string_excluded is_escape_letter refl refl refl high_string line end w.escapes-test.true (not-false _ (c.escapes.invariant.2 w.escapes-test.true)) w.if-line-end-eq92.false
      | else-escapes-test w ↦ stops_nil is_string_excluded is_escape_letter refl refl refl high_string line end w.escapes-test.false
      | then-escapes-test+then-line-end-eq92+in_default w ↦
          w.in_default.ensures.none
    ] in
    goes_end is_string_excluded is_escape_letter refl refl refl high_string line c.args.from c.escapes.text.items end c.escapes.invariant.0 stops
