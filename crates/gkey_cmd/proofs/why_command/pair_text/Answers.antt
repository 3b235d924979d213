-- What is told of the pair is told by a part of the journal, and its text is read as this proof.
use Rattle.std.proofs.Common.{List, ℕ, Some, All, map, length, slice_get, ◌++◌, ◌≡◌, ◌∙◌, sym, ap, subst, refl, true≢false}
use Rattle.chase_laws.specs.Shape.{Shape, IsPattern, PatternFacts}
use Rattle.chase_laws.specs.Graph.{IsGraph}
use Rattle.chase_laws.specs.Joined.{Joined}
use Rattle.chase_laws.specs.Chase.{IsDerivation}
use Rattle.key_file.specs.KeyShape.{KeyShape}
use Rattle.proof_file.specs.CanonicalProof.{proof_text}
use Rattle.proof_file.specs.Tells.{AreSupported}
use Rattle.why_pair.specs.Why.{TellsPart}
use Rattle.gkey_cmd.proofs.Derived.{derived_supported}
use Rattle.gkey_cmd.proofs.Reasons.{pair_told}
use Rattle.gkey_cmd.proofs.why_command.pair_text.Goals as goal

pub why-requires-clause-supported : goal.why-requires-clause-supported
why-requires-clause-supported c =
    let G = c.args.finished.now.ground.graph in
    let K = c.patterns-patterns.result.now in
    let H = c.args.finished.now.journal.items in
    let derivation = subst (λ k. IsDerivation G k H) (sym c.patterns-patterns.ensures) c.requires.finished.journal.derivation in
    subst (AreSupported (length c.args.names.now) K) (sym c.deref.ensures.value)
    (derived_supported G K (length c.args.names.now) (subst IsGraph c.graph-graph.ensures c.names-names.ensures.graph) c.all_valid.ensures.facts c.requires.named H derivation)

pub returns-in_default-clause-apart : goal.returns-in_default-clause-apart
returns-in_default-clause-apart c = λ same.
    let joined = (c.law_chase.ensures c.args.finished.now.ground.graph c.args.finished.now.ground.patterns c.args.finished.now.journal.items c.requires.finished.journal.derivation c.requires.finished.journal.closed c.args.pair.0 c.args.pair.1).0 same in
    true≢false (sym ((rw c.in_default.is at c.in_ok-told.ensures.joined).1 (subst (λ h. Joined h c.args.pair.0 c.args.pair.1) (sym c.deref.ensures.value) joined)))

pub returns-clause-told : goal.returns-clause-told
returns-clause-told c =
    let G = c.args.finished.now.ground.graph in
    let K = c.args.finished.now.ground.patterns in
    let H = c.args.finished.now.journal.items in
    let names = c.args.names.now in
    let key_names = map (λ (k : KeyShape). k.name) c.args.keys.now in
    let told = c.in-Some.told in
    let steps = told.proof in
    let same = c.patterns-patterns.ensures in
    let facts = subst (λ k. (key : ℕ) (Q : Shape) → slice_get k key ≡ Some Q → PatternFacts Q) same c.all_valid.ensures.facts in
    let valid = subst (All IsPattern) same c.all_valid.ensures.valid in
    let of_journal = subst (λ h. TellsPart names c.patterns-patterns.result.now c.deref-2.result.now h steps) c.deref.ensures.value (rw c.in-Some.is at c.in_ok-told.ensures.tells) in
    let by_patterns = subst (λ k. TellsPart names k c.deref-2.result.now H steps) same of_journal in
    let part = subst (λ ns. TellsPart names K ns H steps) (c.deref-2.ensures.value ∙ c.in_ok-key_names.ensures) by_patterns in
    let joined = subst (λ h. Joined h c.args.pair.0 c.args.pair.1) c.deref.ensures.value ((rw c.in-Some.is at c.in_ok-told.ensures.joined).0 refl) in
    let written : c.put_proof.new.buf.items ≡ proof_text steps = c.in_ok-put_proof.ensures.ok ∙ ap (λ (b : List ℕ). b ++ proof_text steps) c.new-text.ensures.items in
    pair_told G K names key_names H steps (subst IsGraph c.graph-graph.ensures c.names-names.ensures.graph) facts valid c.requires.named c.len-distinct.ensures.small c.requires.finished.journal part
    c.law_proof_read_back.ensures.back c.law_proof_read_back.ensures.told c.args.pair.0 c.args.pair.1 told.goal.items c.put_proof.new.buf.items
    ((c.law_chase.ensures G K H c.requires.finished.journal.derivation c.requires.finished.journal.closed c.args.pair.0 c.args.pair.1).1 joined)
    (rw c.in-Some.is at c.in_ok-told.ensures.leads) (rw c.in-Some.is at c.in_ok-told.ensures.once) (rw c.in-Some.is at c.in_ok-told.ensures.supports_once)
    (rw c.in-Some.is at c.in_ok-told.ensures.reached) written
