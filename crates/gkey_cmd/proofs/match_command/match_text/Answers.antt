-- The chase over the numbers is that over the triples.
use Rattle.std.proofs.Common.{length, sym, ◌∙◌, ap, subst}
use Rattle.std.proofs.lemmas.Result.{err_from_is_err_and}
use Rattle.match_run.specs.Classes.{AreClasses}
use Rattle.gkey_cmd.proofs.Reports.{has_names, report_is}
use Rattle.gkey_cmd.proofs.match_command.match_text.Goals as goal

pub returns-in_err-names : goal.returns-in_err-names
returns-in_err-names g c =
    let k = c.from_residual in
    let p = err_from_is_err_and k.result k.ensures.1 in
    rw (p.1, p.2) c.in_err-names.ensures.ends

pub report-requires-after_bounds : goal.report-requires-after_bounds
report-requires-after_bounds g c κs within =
    let ground = c.in_ok-names.finished.ground in
    let t = c.requires.few in
    let is = c.in_ok-names.ensures.of_files t.0 t.1 in
    ap length c.deref.ensures.value ∙ c.in_ok-names.ensures.finished.classes.count ∙ has_names t.0 c.args.read.keys ground.graph c.in_ok-names.names ground.patterns is.names is.graph is.patterns

pub returns-in_err-report : goal.returns-in_err-report
returns-in_err-report g c =
    let k = c.from_residual-in_err-report in
    let p = err_from_is_err_and k.result k.ensures.1 in
    rw (p.1, p.2) (λ triples s. tt)

pub returns : goal.returns
returns g c =
    let ground = c.in_ok-names.finished.ground in
    let labels = subst (AreClasses ground.graph ground.patterns) (sym c.deref.ensures.value) c.in_ok-names.ensures.finished.classes in
    λ triples s.
    let is = c.in_ok-names.ensures.of_files triples s in (
      report_is triples c.args.read.keys ground.graph c.in_ok-names.names ground.patterns is.names is.graph is.patterns c.law_rows.ensures.same
          c.deref.result.now c.into_vec.result.items labels (c.into_vec.ensures ∙ c.in_ok-report.ensures),
      c.in_ok-names.ensures.no_more triples s,
    )
