use Rattle.std.proofs.Common.{ℕ, List, [], ◌++◌, refl, sym, ap, subst, ◌∙◌, arith, drop, slice_range}
use Rattle.std.proofs.lemmas.Bool.{not-false}
use Rattle.nt_lex.specs.Chars.{is_iri_excluded}
use Rattle.nt_lex.specs.Written.{in_iri, is_no_letter, Stops, EscapeAt}
use Rattle.nt_lex.proofs.CharLemmas.{high_iri}
use Rattle.nt_lex.proofs.RunningLemmas.{GoesTo, runs_raw, goes_start, goes_run, goes_escape, escape_allowed, goes_end, stops_nil, stops_byte, stops_escape, utf_past}
use Rattle.nt_lex.proofs.WrittenLemmas.{utf_after, true_false}
use Rattle.nt_lex.proofs.body.iri_body.Goals as goal
use Rattle.nt_lex.proofs.body.iri_body.Goals.{then-end-line-via-then-end-line, then-end-line-via-else-end-line+then-line-end-ne92, then-escapes-test+else-line-end-eq92, else-escapes-test, then-escapes-test+then-line-end-eq92+in_default}

pub returns-then-end-line : goal.returns-then-end-line
returns-then-end-line c =
    runs_raw is_iri_excluded is_no_letter refl refl refl high_iri c.args.line.now c.args.from c.iri_run-end.result c.requires.inside c.requires.utf8 c.iri_run-end.ensures
    (λ before. elim c.then-end-line.branch [
      | then-end-line-via-then-end-line w ↦ λ is. omega (arith, before, w.if-end-line.true)
      | then-end-line-via-else-end-line+then-line-end-ne92 w ↦ w.if-line-end-ne92.true
    ])

pub escapes-init : goal.escapes-init
escapes-init c =
    let line = c.args.line.now in
    let from = c.args.from in
    let run = c.iri_run-end.ensures in
    let start = goes_start is_iri_excluded is_no_letter refl refl refl high_iri line from c.requires.inside in
    let first = goes_run is_iri_excluded is_no_letter refl refl refl high_iri line from [] from c.iri_run-end.result start c.requires.utf8 run in (
      subst (λ t. GoesTo in_iri line from t c.iri_run-end.result) (sym c.in_ok-text.ensures) first,
      utf_after is_iri_excluded is_no_letter refl refl refl high_iri line from c.iri_run-end.result c.requires.utf8 run,
      run.stops,
    )

pub escapes-preserved : goal.escapes-preserved
escapes-preserved c =
    let line = c.args.line.now in
    let from = c.args.from in
    let run = c.iri_run-end-in-escapes.ensures in
    let found : EscapeAt in_iri line c.escapes.end c.in-Some.c c.in-Some.after = escape_allowed is_iri_excluded is_no_letter refl refl refl high_iri line c.escapes.end c.in-Some.c c.in-Some.after c.in-Some.ensures.found in
    let u = utf_past is_iri_excluded is_no_letter (λ l e. absurd (true_false (sym e))) line c.escapes.end c.in-Some.c c.in-Some.after found c.escapes.invariant.1 in
    let one = goes_escape is_iri_excluded is_no_letter refl refl refl high_iri line from c.escapes.text.items c.escapes.end c.in-Some.c c.in-Some.after c.escapes.invariant.0 found in
    let two = goes_run is_iri_excluded is_no_letter refl refl refl high_iri line from _ c.in-Some.after c.iri_run-end-in-escapes.result one u run in (
      subst (λ t. GoesTo in_iri line from t c.iri_run-end-in-escapes.result) (sym (c.in_ok-extend_from_slice.ensures.items ∙ ap (λ (t : List ℕ). t ++ slice_range line c.in-Some.after c.iri_run-end-in-escapes.result) c.in_ok-push_char.ensures)) two,
      utf_after is_iri_excluded is_no_letter refl refl refl high_iri line c.in-Some.after c.iri_run-end-in-escapes.result u run,
      run.stops,
    )

pub returns : goal.returns
returns c =
    let line = c.args.line.now in
    let end = c.escapes.end in
    let stops : Stops in_iri (drop end line) = elim c.escapes-test.branch [
      | then-escapes-test+else-line-end-eq92 w ↦
          stops_byte is_iri_excluded is_no_letter refl refl refl high_iri line end w.escapes-test.true (not-false _ (c.escapes.invariant.2 w.escapes-test.true)) w.if-line-end-eq92.false
      | else-escapes-test w ↦ stops_nil is_iri_excluded is_no_letter refl refl refl high_iri line end w.escapes-test.false
      | then-escapes-test+then-line-end-eq92+in_default w ↦
          stops_escape is_iri_excluded is_no_letter refl refl refl high_iri line end w.escapes-test.true w.if-line-end-eq92.true w.in_default.ensures.none (λ l more e _. absurd (true_false (sym e)))
    ] in
    goes_end is_iri_excluded is_no_letter refl refl refl high_iri line c.args.from c.escapes.text.items end c.escapes.invariant.0 stops
