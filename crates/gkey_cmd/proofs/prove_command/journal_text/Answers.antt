-- The journal's proof tells it, and its text is read as this proof.
use Rattle.std.proofs.Common.{List, ℕ, Some, Ok, All, map, length, slice_get, ◌++◌, ◌≡◌, ◌≤◌, ◌^◌, ◌∙◌, sym, ap, subst}
use Rattle.chase_laws.specs.Shape.{Shape, IsPattern, PatternFacts}
use Rattle.chase_laws.specs.Graph.{IsGraph}
use Rattle.chase_laws.specs.Chase.{IsDerivation}
use Rattle.key_file.specs.KeyShape.{KeyShape}
use Rattle.proof_file.specs.Tells.{AreSupported, TellsAll}
use Rattle.proof_file.specs.ProofText.{ProofSays}
use Rattle.proof_file.specs.CanonicalProof.{proof_text}
use Rattle.gkey_cmd.proofs.Derived.{derived_supported, told_links, few_entries}
use Rattle.gkey_cmd.proofs.prove_command.journal_text.Goals as goal

pub build_proof-requires-clause-supported : goal.build_proof-requires-clause-supported
build_proof-requires-clause-supported c =
    let G = c.args.finished.now.ground.graph in
    let K = c.patterns-patterns.result.now in
    let H = c.args.finished.now.journal.items in
    let derivation = subst (λ k. IsDerivation G k H) (sym c.patterns-patterns.ensures) c.requires.finished.journal.derivation in
    subst (AreSupported (length c.args.names.now) K) (sym c.deref.ensures.value)
    (derived_supported G K (length c.args.names.now) (subst IsGraph c.graph-graph.ensures c.names-names.ensures.graph) c.all_valid.ensures.facts c.requires.named H derivation)

pub returns : goal.returns
returns c =
    let G = c.args.finished.now.ground.graph in
    let K = c.args.finished.now.ground.patterns in
    let H = c.args.finished.now.journal.items in
    let names = c.args.names.now in
    let key_names = map (λ (k : KeyShape). k.name) c.args.keys.now in
    let steps = c.in_ok-proof.proof in
    let same = c.patterns-patterns.ensures in
    let facts = subst (λ k. (key : ℕ) (Q : Shape) → slice_get k key ≡ Some Q → PatternFacts Q) same c.all_valid.ensures.facts in
    let valid = subst (All IsPattern) same c.all_valid.ensures.valid in
    let supported = derived_supported G K (length names) (subst IsGraph c.graph-graph.ensures c.names-names.ensures.graph) facts c.requires.named H c.requires.finished.journal.derivation in
    let of_journal = subst (λ h. TellsAll names c.patterns-patterns.result.now c.deref-2.result.now h steps) c.deref.ensures.value c.in_ok-proof.ensures.tells in
    let by_patterns = subst (λ k. TellsAll names k c.deref-2.result.now H steps) same of_journal in
    let tells = subst (λ ns. TellsAll names K ns H steps) (c.deref-2.ensures.value ∙ c.in_ok-key_names.ensures) by_patterns in
    let written : c.put_proof.new.buf.items ≡ proof_text steps = c.in_ok-put_proof.ensures.ok ∙ ap (λ (b : List ℕ). b ++ proof_text steps) c.new-text.ensures.items in
    record {
      journal = H;
      steps = steps;
      finished = c.requires.finished.journal;
      tells = tells;
      ends = told_links names K key_names H steps c.len-distinct.ensures.distinct facts supported tells;
      written = written;
      reads = λ spelled named limit fits.
          let short = few_entries (length names) (2 ^ 32) K H facts supported c.requires.finished.journal.lean c.len-distinct.ensures.small in
          let readable = c.law_proof_read_back.ensures.told names K key_names H steps spelled valid named c.len-distinct.ensures.small short supported tells in
          subst (λ t. ProofSays limit t (Ok steps)) (sym written)
          ((c.law_proof_read_back.ensures.back limit steps readable).0 (subst (λ (t : List ℕ). length t ≤ limit) written fits));
    }
