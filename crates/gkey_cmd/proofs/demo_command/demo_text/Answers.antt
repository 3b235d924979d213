-- The counts of the chase over the numbers are those over the triples.
use Rattle.std.proofs.Common.{length, refl, sym, subst}
use Rattle.std.specs.Ordering.{nat_cmp}
use Rattle.std.specs.Cmp.Lexicographic.{slice_cmp}
use Rattle.std.specs.List.Sorted.{IsStrictlySortedBy}
use Rattle.std.proofs.lemmas.Result.{err_from_is_err_and}
use Rattle.chase_laws.specs.Graph.{NumberedGraph}
use Rattle.chase_laws.specs.Candidate.{IsCandidateCount}
use Rattle.pair_seed.specs.Stop.{IsRightStop}
use Rattle.gkey_cmd.proofs.DemoCounts.{demo_is}
use Rattle.gkey_cmd.proofs.Reports.{not_too_many, right_ending, of_numbered}
use Rattle.gkey_cmd.proofs.demo_command.demo_text.Goals as goal

pub returns-in-Err : goal.returns-in-Err
returns-in-Err g c =
    let n = c.in_ok-numbered.numbered in
    let right = subst (λ K. IsRightStop n.graph K c.args.options.now.limits.now.pairs c.in-Err.stop) c.deref.ensures.value c.in-Err.ensures.stop in
    λ triples s.
    let is = c.in_ok-numbered.ensures.numbered triples s in
    right_ending triples c.args.read.keys n.graph n.names n.patterns.items is.names is.graph is.patterns c.law_rows.ensures.candidate c.args.options.now.limits.now.pairs c.chase_ending.result
    (c.in-Err.stop, right, c.chase_ending.ensures)

pub returns-in_err-_names : goal.returns-in_err-_names
returns-in_err-_names g c =
    let n = c.in_ok-numbered.numbered in
    let k = c.from_residual-in_err-_names in
    let p = err_from_is_err_and k.result k.ensures.1 in
    rw (p.1, p.2) (λ triples s.
    let is = c.in_ok-numbered.ensures.numbered triples s in
    right_ending triples c.args.read.keys n.graph n.names n.patterns.items is.names is.graph is.patterns c.law_rows.ensures.candidate c.args.options.now.limits.now.pairs c.in_err-_names.field-0.0 c.in_err-_names.ensures.ends)

pub returns-in_err-line : goal.returns-in_err-line
returns-in_err-line g c =
    let k = c.from_residual-in_err-line in
    let p = err_from_is_err_and k.result k.ensures.1 in
    rw (p.1, p.2) (λ triples s. tt)

pub returns : goal.returns
returns g c =
    let n = c.in_ok-numbered.numbered in
    let chased = c.in_ok-_names.ensures in
    let ground = c.in_ok-_names.finished.ground in
    let told = c.in_ok-line.ensures in
    let limit = c.args.options.now.limits.now.pairs in
    let rise = subst (λ (G : NumberedGraph). IsStrictlySortedBy (slice_cmp nat_cmp) G.rows) c.graph.ensures c.rows-ascending.ensures.ascending in
    let counted = subst (λ K. IsCandidateCount n.graph K c.in-Ok.pairs) c.deref.ensures.value c.in-Ok.ensures.count in
    let pairs = subst (λ G. IsCandidateCount G ground.patterns c.in-Ok.pairs) (sym chased.graph) (subst (λ K. IsCandidateCount n.graph K c.in-Ok.pairs) (sym chased.patterns) counted) in
    λ triples s.
    let is = c.in_ok-numbered.ensures.numbered triples s in
    let of = of_numbered triples c.args.read.keys n.names c.in_ok-_names._names n.graph n.patterns.items ground is.names is.graph is.patterns chased.names chased.graph chased.patterns in (
      demo_is triples c.args.read.keys ground.graph c.in_ok-_names._names ground.patterns of.names of.graph of.patterns c.law_rows.ensures.same c.law_rows.ensures.candidates
          told.labels c.in_ok-line.line.items (length ground.graph.rows) c.in-Ok.pairs told.class_count told.member_count
          rise refl pairs told.classes told.class_number told.member_number told.written,
      not_too_many triples c.args.read.keys n.graph n.names n.patterns.items is.names is.graph is.patterns c.law_rows.ensures.candidate limit chased.no_more,
    )
