-- The chases over the numbers are those over the triples, and the labels are those of all of them.
use Rattle.std.proofs.Common.{length, sym, ◌∙◌, ap, subst}
use Rattle.std.proofs.lemmas.Result.{err_from_is_err_and}
use Rattle.match_run.specs.Classes.{AreClasses}
use Rattle.gkey_cmd.proofs.Reports.{has_names, report_is, not_too_many, right_ending}
use Rattle.gkey_cmd.proofs.grow_command.grow_text.Goals as goal

pub returns-in-Err : goal.returns-in-Err
returns-in-Err g c =
    let n = c.in_ok-growth.growth in
    λ triples s.
    let is = c.in_ok-growth.ensures.numbered triples s in
    right_ending triples c.args.keys.now n.both n.names n.patterns.items is.names is.both is.patterns c.law_rows.ensures.candidate c.args.options.now.limits.now.pairs c.chase_ending.result
    (c.in-Err.stop, c.in-Err.ensures.stop, c.chase_ending.ensures)

pub report-requires-after_bounds : goal.report-requires-after_bounds
report-requires-after_bounds g c κs within =
    let n = c.in_ok-growth.growth in
    let t = c.requires.few in
    let is = c.in_ok-growth.ensures.numbered t.0 t.1 in
    ap length c.deref.ensures.value ∙ c.in-Ok.ensures.classes.count ∙ has_names t.0 c.args.keys.now n.both n.names n.patterns.items is.names is.both is.patterns

pub returns-in_err-report : goal.returns-in_err-report
returns-in_err-report g c =
    let k = c.from_residual-in_err-report in
    let p = err_from_is_err_and k.result k.ensures.1 in
    rw (p.1, p.2) (λ triples s. tt)

pub returns : goal.returns
returns g c =
    let n = c.in_ok-growth.growth in
    let classes = subst (AreClasses n.both n.patterns.items) (sym c.deref.ensures.value) c.in-Ok.ensures.classes in
    λ triples s.
    let is = c.in_ok-growth.ensures.numbered triples s in (
      report_is triples c.args.keys.now n.both n.names n.patterns.items is.names is.both is.patterns c.law_rows.ensures.same
          c.deref.result.now c.into_vec.result.items classes (c.into_vec.ensures ∙ c.in_ok-report.ensures),
      not_too_many triples c.args.keys.now n.both n.names n.patterns.items is.names is.both is.patterns c.law_rows.ensures.candidate c.args.options.now.limits.now.pairs c.in-Ok.ensures.no_more,
    )
