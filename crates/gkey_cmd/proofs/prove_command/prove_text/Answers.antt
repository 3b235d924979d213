-- The proof of the chase over the numbers is one over the triples.
use Rattle.std.proofs.Common.{map, length, ◌∙◌, sym, ap, subst}
use Rattle.std.proofs.lemmas.List.{length-map}
use Rattle.std.proofs.lemmas.Result.{err_from_is_err_and}
use Rattle.key_file.specs.KeyShape.{KeyShape}
use Rattle.key_file.specs.Compile.{shape_of}
use Rattle.gkey_cmd.specs.Told.{TellsJournal}
use Rattle.gkey_cmd.proofs.Reports.{has_names}
use Rattle.gkey_cmd.proofs.Derived.{is_proof}
use Rattle.gkey_cmd.proofs.prove_command.prove_text.Goals as goal

pub returns-in_err-names : goal.returns-in_err-names
returns-in_err-names g c =
    let k = c.from_residual in
    let p = err_from_is_err_and k.result k.ensures.1 in
    rw (p.1, p.2) c.in_err-names.ensures.ends

pub journal_text-requires-clause-named : goal.journal_text-requires-clause-named
journal_text-requires-clause-named g c =
    let ground = c.in_ok-names.finished.ground in
    let t = c.requires.few in
    let is = c.in_ok-names.ensures.of_files t.0 t.1 in
    has_names t.0 c.args.read.keys ground.graph c.in_ok-names.names ground.patterns is.names is.graph is.patterns

pub journal_text-requires-clause-one_each : goal.journal_text-requires-clause-one_each
journal_text-requires-clause-one_each g c =
    let t = c.requires.few in
    let is = c.in_ok-names.ensures.of_files t.0 t.1 in
    ap length c.keys-2.ensures.keys ∙ sym (length-map c.args.read.keys (shape_of c.in_ok-names.names)) ∙ sym (ap length is.patterns)

pub returns-in_err-text : goal.returns-in_err-text
returns-in_err-text g c =
    let k = c.from_residual-in_err-text in
    let p = err_from_is_err_and k.result k.ensures.1 in
    rw (p.1, p.2) (λ triples s. tt)

pub returns : goal.returns
returns g c =
    let ground = c.in_ok-names.finished.ground in
    let names = c.in_ok-names.names in
    let keys = c.args.read.keys in
    let told = subst (λ ks. TellsJournal ground names (map (λ (k : KeyShape). k.name) ks) c.in_ok-text.text.items) c.keys-2.ensures.keys c.in_ok-text.ensures in
    λ triples s.
    let is = c.in_ok-names.ensures.of_files triples s in (
      is_proof triples keys ground names is.names is.graph is.patterns (record { few = c.keys-2.ensures.few; names_differ = c.keys-2.ensures.names_differ; valid = c.keys-2.ensures.valid })
          c.law_rows.ensures.derivation c.law_rows.ensures.closed c.law_chase.ensures c.law_proof.ensures.accepted c.in_ok-text.text.items told,
      c.in_ok-names.ensures.no_more triples s,
    )
