-- What was found over the numbers is so of the triples, the keys and the words.
use Rattle.std.proofs.Common.{map, length, ◌∙◌, sym, ap, subst}
use Rattle.std.proofs.lemmas.List.{length-map}
use Rattle.std.proofs.lemmas.Option.{slice_get_within}
use Rattle.std.proofs.lemmas.Result.{err_from_is_err_and}
use Rattle.chase_laws.specs.Chase.{AreSame}
use Rattle.key_file.specs.KeyShape.{KeyShape}
use Rattle.key_file.specs.Compile.{shape_of}
use Rattle.gkey_cmd.specs.Why.{TellsPair}
use Rattle.gkey_cmd.proofs.Reports.{has_names, not_too_many, of_numbered}
use Rattle.gkey_cmd.proofs.Reasons.{two_named, words_end, chase_ends, are_apart, is_reason}
use Rattle.gkey_cmd.proofs.why_command.why_text.Goals as goal

pub returns-in_err-pair : goal.returns-in_err-pair
returns-in_err-pair g c =
    let n = c.in_ok-numbered.numbered in
    let k = c.from_residual-in_err-pair in
    let p = err_from_is_err_and k.result k.ensures.1 in
    rw (p.1, p.2) (λ triples s.
    let is = c.in_ok-numbered.ensures.numbered triples s in
    words_end triples c.args.read.keys n.graph n.names n.patterns.items is.names is.graph is.patterns c.args.words.now.first.now c.args.words.now.second.now c.args.options.now.limits.now.pairs c.in_err-pair.field-0.0 c.in_err-pair.ensures)

pub returns-in_err-names : goal.returns-in_err-names
returns-in_err-names g c =
    let n = c.in_ok-numbered.numbered in
    let first = c.args.words.now.first.now in
    let second = c.args.words.now.second.now in
    let k = c.from_residual-in_err-names in
    let p = err_from_is_err_and k.result k.ensures.1 in
    rw (p.1, p.2) (λ triples s.
    let is = c.in_ok-numbered.ensures.numbered triples s in
    let two = two_named triples c.args.read.keys n.graph n.names n.patterns.items is.names is.graph is.patterns first second c.in_ok-pair.pair.0 c.in_ok-pair.pair.1 c.in_ok-pair.ensures.0 c.in_ok-pair.ensures.1 in
    chase_ends triples c.args.read.keys n.graph n.names n.patterns.items is.names is.graph is.patterns c.law_rows.ensures.candidate first second c.args.options.now.limits.now.pairs c.in_err-names.field-0.0 two c.in_err-names.ensures.ends)

pub pair_text-requires-clause-named : goal.pair_text-requires-clause-named
pair_text-requires-clause-named g c =
    let n = c.in_ok-numbered.numbered in
    let keys = c.args.read.keys in
    let chased = c.in_ok-names.ensures in
    let ground = c.in_ok-names.finished.ground in
    let t = c.requires.few in
    let is = c.in_ok-numbered.ensures.numbered t.0 t.1 in
    let of = of_numbered t.0 keys n.names c.in_ok-names.names n.graph n.patterns.items ground is.names is.graph is.patterns chased.names chased.graph chased.patterns in
    has_names t.0 keys ground.graph c.in_ok-names.names ground.patterns of.names of.graph of.patterns

pub pair_text-requires-clause-one_each : goal.pair_text-requires-clause-one_each
pair_text-requires-clause-one_each g c =
    let n = c.in_ok-numbered.numbered in
    let t = c.requires.few in
    let is = c.in_ok-numbered.ensures.numbered t.0 t.1 in
    ap length c.keys-2.ensures.keys ∙ sym (length-map c.args.read.keys (shape_of n.names)) ∙ sym (ap length is.patterns) ∙ sym (ap length c.in_ok-names.ensures.patterns)

pub pair_text-requires-clause-a : goal.pair_text-requires-clause-a
pair_text-requires-clause-a g c =
    let x = c.in_ok-pair.ensures.0 in
    rw c.in_ok-names.ensures.names (slice_get_within c.in_ok-numbered.numbered.names c.in_ok-pair.pair.0 x.term x.name)

pub pair_text-requires-clause-b : goal.pair_text-requires-clause-b
pair_text-requires-clause-b g c =
    let x = c.in_ok-pair.ensures.1 in
    rw c.in_ok-names.ensures.names (slice_get_within c.in_ok-numbered.numbered.names c.in_ok-pair.pair.1 x.term x.name)

pub returns-in_err-text : goal.returns-in_err-text
returns-in_err-text g c =
    let k = c.from_residual-in_err-text in
    let p = err_from_is_err_and k.result k.ensures.1 in
    rw (p.1, p.2) (λ triples s. tt)

pub returns-in-Some : goal.returns-in-Some
returns-in-Some g c =
    let n = c.in_ok-numbered.numbered in
    let keys = c.args.read.keys in
    let first = c.args.words.now.first.now in
    let second = c.args.words.now.second.now in
    let a = c.in_ok-pair.pair.0 in
    let b = c.in_ok-pair.pair.1 in
    let x = c.in_ok-pair.ensures.0 in
    let y = c.in_ok-pair.ensures.1 in
    let chased = c.in_ok-names.ensures in
    let ground = c.in_ok-names.finished.ground in
    let text = c.in-Some.text.items in
    let names = c.in_ok-names.names in
    let here = subst (λ ks. TellsPair ground.graph ground.patterns names (map (λ (k : KeyShape). k.name) ks) a b text) c.keys-2.ensures.keys (rw c.in-Some.is at c.in_ok-text.ensures.told) in
    let by_names = subst (λ ns. TellsPair ground.graph ground.patterns ns (map (λ (k : KeyShape). k.name) keys) a b text) chased.names here in
    let by_graph = subst (λ G. TellsPair G ground.patterns n.names (map (λ (k : KeyShape). k.name) keys) a b text) chased.graph by_names in
    let told = subst (λ K. TellsPair n.graph K n.names (map (λ (k : KeyShape). k.name) keys) a b text) chased.patterns by_graph in
    λ triples s.
    let is = c.in_ok-numbered.ensures.numbered triples s in (
      two_named triples keys n.graph n.names n.patterns.items is.names is.graph is.patterns first second a b x y,
      not_too_many triples keys n.graph n.names n.patterns.items is.names is.graph is.patterns c.law_rows.ensures.candidate c.args.options.now.limits.now.pairs chased.no_more,
      is_reason triples keys n.graph n.names n.patterns.items is.names is.graph is.patterns c.law_rows.ensures.same first second a b x y c.law_rows.ensures.derivation
          c.law_proof.ensures.accepted (record { few = c.keys-2.ensures.few; names_differ = c.keys-2.ensures.names_differ; valid = c.keys-2.ensures.valid }) text told,
    )

pub returns-in_err-not_the_same-in-None : goal.returns-in_err-not_the_same-in-None
returns-in_err-not_the_same-in-None g c =
    let k = c.from_residual-in_err-not_the_same-in-None in
    let p = err_from_is_err_and k.result k.ensures.1 in
    rw (p.1, p.2) (λ triples s. tt)

pub returns : goal.returns
returns g c =
    let n = c.in_ok-numbered.numbered in
    let keys = c.args.read.keys in
    let first = c.args.words.now.first.now in
    let second = c.args.words.now.second.now in
    let a = c.in_ok-pair.pair.0 in
    let b = c.in_ok-pair.pair.1 in
    let x = c.in_ok-pair.ensures.0 in
    let y = c.in_ok-pair.ensures.1 in
    let chased = c.in_ok-names.ensures in
    let ground = c.in_ok-names.finished.ground in
    let by_graph = subst (λ G. ¬ (AreSame G ground.patterns a b)) chased.graph (rw c.in-None.is at c.in_ok-text.ensures.apart) in
    let apart = subst (λ K. ¬ (AreSame n.graph K a b)) chased.patterns by_graph in
    λ triples s.
    let is = c.in_ok-numbered.ensures.numbered triples s in (
      two_named triples keys n.graph n.names n.patterns.items is.names is.graph is.patterns first second a b x y,
      not_too_many triples keys n.graph n.names n.patterns.items is.names is.graph is.patterns c.law_rows.ensures.candidate c.args.options.now.limits.now.pairs chased.no_more,
      (are_apart triples keys n.graph n.names n.patterns.items is.names is.graph is.patterns c.law_rows.ensures.same first second a b x y apart, c.in_ok-not_the_same-in-None.ensures),
    )
