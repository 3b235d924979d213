-- The merged graph of the chase over the numbers is that over the triples.
use Rattle.std.proofs.Common.{All, subst}
use Rattle.chase_laws.specs.Shape.{IsPattern}
use Rattle.std.proofs.lemmas.Result.{err_from_is_err_and}
use Rattle.gkey_cmd.proofs.Reports.{has_names}
use Rattle.gkey_cmd.proofs.MergedOutput.{merged_is}
use Rattle.gkey_cmd.proofs.merge_command.merge_text.Goals as goal

pub returns-in_err-names : goal.returns-in_err-names
returns-in_err-names g c =
    let k = c.from_residual in
    let p = err_from_is_err_and k.result k.ensures.1 in
    rw (p.1, p.2) c.in_err-names.ensures.ends

pub graph_text-requires-clause-named : goal.graph_text-requires-clause-named
graph_text-requires-clause-named g c =
    let ground = c.in_ok-names.finished.ground in
    let t = c.requires.few in
    let is = c.in_ok-names.ensures.of_files t.0 t.1 in
    has_names t.0 c.args.read.keys ground.graph c.in_ok-names.names ground.patterns is.names is.graph is.patterns

pub returns-in_err-text : goal.returns-in_err-text
returns-in_err-text g c =
    let k = c.from_residual-in_err-text in
    let p = err_from_is_err_and k.result k.ensures.1 in
    rw (p.1, p.2) (λ triples s. tt)

pub returns : goal.returns
returns g c =
    let ground = c.in_ok-names.finished.ground in
    let told = c.in_ok-text.ensures in
    λ triples s.
    let is = c.in_ok-names.ensures.of_files triples s in (
      merged_is triples c.args.read.keys ground.graph c.in_ok-names.names ground.patterns is.names is.graph is.patterns c.law_entities.ensures (subst (All IsPattern) c.patterns.ensures c.all_valid.ensures.valid)
          told.labels told.classes c.law_rows.ensures.same c.in_ok-text.text.items told.unmerged told.read_back,
      c.in_ok-names.ensures.no_more triples s,
    )
