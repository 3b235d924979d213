-- The groups are settled, so no step goes further.
use Rattle.std.proofs.Common.{List, ℕ, length, ◌≡◌, ◌<◌, ◌↔◌, sym, subst}
use Rattle.std.specs.Prelude.{slice_index}
use Rattle.chase_laws.specs.declared.entry.Entry.{Entry}
use Rattle.chase_laws.specs.Chase.{IsClosed, AreSame}
use Rattle.chase_laws.specs.Signature.{AreSettled}
use Rattle.valuation_groups.specs.Groups.{listed_of}
use Rattle.signature_chase.proofs.Listed.{listed_settled}
use Rattle.signature_chase.proofs.chasing.chase_by_signatures.Goals as goal

pub returns-clause-closed : goal.returns-clause-closed
returns-clause-closed c =
    let G = c.args.graph.now in
    let K = c.args.patterns.now in
    let book = c.in_ok-book.book in
    let e = c.in_ok-book.ensures in
    let parts = c.into_parts-labels.ensures in
    let settled : AreSettled G K book.labels = c.law_listed.ensures G K (listed_of c.args.groups.now) c.requires.listed book.labels (listed_settled c.args.groups.now c.requires.apart book.labels e.settled) in
    subst (λ (J : List Entry). IsClosed G K J) (sym parts.journal)
    ((c.law_signature.ensures.closed G K c.names-names.ensures.graph c.all_valid.ensures.valid book.labels book.journal e.derived.count parts.labelled.classes).0 settled)

pub returns-clause-same : goal.returns-clause-same
returns-clause-same c =
    let G = c.args.graph.now in
    let K = c.args.patterns.now in
    let book = c.in_ok-book.book in
    let e = c.in_ok-book.ensures in
    let parts = c.into_parts-labels.ensures in
    let settled : AreSettled G K book.labels = c.law_listed.ensures G K (listed_of c.args.groups.now) c.requires.listed book.labels (listed_settled c.args.groups.now c.requires.apart book.labels e.settled) in
    subst (λ (ls : List ℕ). (a b : ℕ) → a < length ls → b < length ls → (slice_index ls a ≡ slice_index ls b) ↔ AreSame G K a b) (sym parts.labels)
    (λ a b ha hb.
    let join = parts.labelled.classes a b ha hb in
    let same = c.law_signature.ensures.same G K c.names-names.ensures.graph c.all_valid.ensures.valid book.labels book.journal e.derived.count parts.labelled.classes e.derived.derivation settled a b in
    ((λ h. same.1 (join.0 h)), (λ h. join.1 (same.0 h))))
