-- Two rows of one signature make a step.
use Rattle.std.proofs.Common.{List, ℕ, Contains, length, drop, ◌≡◌, ◌≢◌, ◌<◌, refl, sym, ◌∙◌, ap, subst, arith}
use Rattle.std.specs.Prelude.{slice_index}
use Rattle.valuation_groups.specs.Groups.{row_in}
use Rattle.signature_chase.specs.Settled.{name_label}
use Rattle.signature_chase.proofs.Looks.{signed}
use Rattle.signature_chase.proofs.settling.meet.Goals as goal

pub label-first-requires : goal.label-first-requires
label-first-requires c = rw (c.name-a.ensures, c.requires.derived.count) (c.requires.group.named c.args.left c.requires.left).name

pub label-second-requires : goal.label-second-requires
label-second-requires c = rw (c.name-b.ensures, c.requires.derived.count) (c.requires.group.named c.args.right c.requires.right).name

pub enter-requires-clause-step : goal.enter-requires-clause-step
enter-requires-clause-step c =
    let W = c.args.setting.now in
    let book = c.args.book.now in
    let group = c.args.group.now in
    let e = c.entry_of-entry.result in
    let h = c.entry_of-entry.ensures in
    c.law_signature.ensures.step W.graph W.patterns c.holds.ensures.numbered book.labels book.journal c.requires.derived.count c.label-first.ensures.labelled.classes
    h.pattern e h.key h.left.valuation h.right.valuation h.left.name h.right.name
    (signed W.graph h.pattern book.labels e.a e.b group.values (drop 1 (row_in group c.args.left)) (drop 1 (row_in group c.args.right)) e.left e.right h.left h.right c.requires.same)

pub enter-requires-clause-apart : goal.enter-requires-clause-apart
enter-requires-clause-apart c = λ j.
    let labels = c.args.book.now.labels in
    let h = c.entry_of-entry.ensures in
    let a : c.name-a.result ≡ c.entry_of-entry.result.a = c.name-a.ensures ∙ sym h.a in
    let b : c.name-b.result ≡ c.entry_of-entry.result.b = c.name-b.ensures ∙ sym h.b in
    let in_a : c.entry_of-entry.result.a < length labels = rw (h.a, c.requires.derived.count) (c.requires.group.named c.args.left c.requires.left).name in
    let in_b : c.entry_of-entry.result.b < length labels = rw (h.b, c.requires.derived.count) (c.requires.group.named c.args.right c.requires.right).name in
    let same = (c.label-first.ensures.labelled.classes c.entry_of-entry.result.a c.entry_of-entry.result.b in_a in_b).1 j in
    c.if-first-second.false (c.label-first.ensures.label ∙ ap (slice_index labels) a ∙ same ∙ sym (ap (slice_index labels) b) ∙ sym c.label-second.ensures.label)

pub returns-clause-met : goal.returns-clause-met
returns-clause-met c =
    let labels = c.enter.new.book.labels in
    let h = c.entry_of-entry.ensures in
    sym (ap (slice_index labels) h.a) ∙ c.enter.ensures.joined ∙ ap (slice_index labels) h.b
