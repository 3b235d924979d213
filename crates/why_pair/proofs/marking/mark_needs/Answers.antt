use Rattle.std.proofs.Common.{List, ℕ, ◌≡◌, ◌<◌, Some, true, false, All, Contains, length, slice_get, get_or, sym, ap, subst, ◌∙◌, arith, true≢false}
use Rattle.std.proofs.lemmas.List.Elements.{Contains-get_or}
use Rattle.std.proofs.lemmas.Option.{slice_get_within, slice_get-get_or, get_or_from_slice_get}
use Rattle.chase_laws.specs.declared.entry.Entry.{Entry}
use Rattle.chase_laws.specs.declared.pattern.Slot.{Slot}
use Rattle.chase_laws.specs.Shape.{Shape}
use Rattle.proof_graph.specs.Built.{pattern_at, IsJoinedAt}
use Rattle.why_pair.specs.Needed.{needs_of}
use Rattle.why_pair.specs.Kept.{IsMarkedAt}
use Rattle.why_pair.specs.Marking.{MarksFrom}
use Rattle.why_pair.proofs.NeedLemmas.{pattern_is, joined_all, needs_below}
use Rattle.why_pair.proofs.MarkLemmas.{more_marks, same_marks}
use Rattle.why_pair.proofs.marking.mark_needs.Goals as goal

-- what was found is what the entry needs
places_are : (H : List Entry) (K : List Shape) (e : Entry) (Q : Shape) (ways : List Entry) (slots : List Slot) (places : List ℕ) → places ≡ needs_of ways slots e → ways ≡ H → slots ≡ Q.slots → slice_get K e.key ≡ Some Q →
    places ≡ needs_of H (pattern_at K e.key).slots e
places_are H K e Q ways slots places is same are key =
    is ∙ ap (λ J. needs_of J slots e) same ∙ ap (λ ss. needs_of H ss e) are ∙ ap (λ (P : Shape). needs_of H P.slots e) (sym (pattern_is K e.key Q key))

pub bounds-patterns-entry : goal.bounds-patterns-entry
bounds-patterns-entry c =
    let H = c.args.journal.now in
    let e = c.index-journal-at.result in
    let at : slice_get H c.args.at ≡ Some e = slice_get-get_or H c.args.at e c.requires.inside ∙ ap Some (sym c.index-journal-at.is) in
    let u = c.requires.told.1 c.args.at e at in
    slice_get_within c.args.patterns.now e.key u.pattern u.key

pub needs-requires-clause-left : goal.needs-requires-clause-left
needs-requires-clause-left c =
    let H = c.args.journal.now in
    let K = c.args.patterns.now in
    let e = c.index-journal-at.result in
    let Q = c.index-patterns-entry.result in
    let at : slice_get H c.args.at ≡ Some e = slice_get-get_or H c.args.at e c.requires.inside ∙ ap Some (sym c.index-journal-at.is) in
    let u = c.requires.told.1 c.args.at e at in
    let key : slice_get K e.key ≡ Some Q = slice_get-get_or K e.key Q (slice_get_within K e.key u.pattern u.key) ∙ ap Some (sym c.index-patterns-entry.is) in
    (joined_all c.requires.told.0 K H c.requires.told.1 c.args.at e at Q key).0 ∙ ap length (sym c.slots.ensures.slots)

pub needs-requires-clause-right : goal.needs-requires-clause-right
needs-requires-clause-right c =
    let H = c.args.journal.now in
    let K = c.args.patterns.now in
    let e = c.index-journal-at.result in
    let Q = c.index-patterns-entry.result in
    let at : slice_get H c.args.at ≡ Some e = slice_get-get_or H c.args.at e c.requires.inside ∙ ap Some (sym c.index-journal-at.is) in
    let u = c.requires.told.1 c.args.at e at in
    let key : slice_get K e.key ≡ Some Q = slice_get-get_or K e.key Q (slice_get_within K e.key u.pattern u.key) ∙ ap Some (sym c.index-patterns-entry.is) in
    (joined_all c.requires.told.0 K H c.requires.told.1 c.args.at e at Q key).1 ∙ ap length (sym c.slots.ensures.slots)

pub needs-requires-clause-joined : goal.needs-requires-clause-joined
needs-requires-clause-joined c =
    let H = c.args.journal.now in
    let K = c.args.patterns.now in
    let e = c.index-journal-at.result in
    let Q = c.index-patterns-entry.result in
    let at : slice_get H c.args.at ≡ Some e = slice_get-get_or H c.args.at e c.requires.inside ∙ ap Some (sym c.index-journal-at.is) in
    let u = c.requires.told.1 c.args.at e at in
    let key : slice_get K e.key ≡ Some Q = slice_get-get_or K e.key Q (slice_get_within K e.key u.pattern u.key) ∙ ap Some (sym c.index-patterns-entry.is) in
    subst (λ J. IsJoinedAt J c.slots.result.now e) (sym c.requires.ways_are)
    (subst (λ slots. IsJoinedAt H slots e) (sym c.slots.ensures.slots) (joined_all c.requires.told.0 K H c.requires.told.1 c.args.at e at Q key).2)

pub mark-requires : goal.mark-requires
mark-requires c =
    let H = c.args.journal.now in
    let K = c.args.patterns.now in
    let e = c.index-journal-at.result in
    let Q = c.index-patterns-entry.result in
    let at : slice_get H c.args.at ≡ Some e = slice_get-get_or H c.args.at e c.requires.inside ∙ ap Some (sym c.index-journal-at.is) in
    let u = c.requires.told.1 c.args.at e at in
    let key : slice_get K e.key ≡ Some Q = slice_get-get_or K e.key Q (slice_get_within K e.key u.pattern u.key) ∙ ap Some (sym c.index-patterns-entry.is) in
    let are = places_are H K e Q c.args.ways.now c.slots.result.now c.deref.result.now (c.deref.ensures.value ∙ c.in_ok-places.ensures) c.requires.ways_are c.slots.ensures.slots key in
    let count = c.requires.count in
    let inside = c.requires.inside in
    λ k d l.
    let below = needs_below c.requires.told.0 K H c.requires.told.1 c.args.at e at (get_or c.deref.result.now k d)
    (subst (λ places. Contains places (get_or c.deref.result.now k d)) are (Contains-get_or c.deref.result.now k d l)) in
    omega arith

pub returns-in_ok-places : goal.returns-in_ok-places
returns-in_ok-places c =
    let H = c.args.journal.now in
    let K = c.args.patterns.now in
    let e = c.index-journal-at.result in
    let Q = c.index-patterns-entry.result in
    let places = c.deref.result.now in
    let marks = c.args.marks.now in
    let at : slice_get H c.args.at ≡ Some e = slice_get-get_or H c.args.at e c.requires.inside ∙ ap Some (sym c.index-journal-at.is) in
    let u = c.requires.told.1 c.args.at e at in
    let key : slice_get K e.key ≡ Some Q = slice_get-get_or K e.key Q (slice_get_within K e.key u.pattern u.key) ∙ ap Some (sym c.index-patterns-entry.is) in
    let are = places_are H K e Q c.args.ways.now c.slots.result.now places (c.deref.ensures.value ∙ c.in_ok-places.ensures) c.requires.ways_are c.slots.ensures.slots key in
    let count = c.requires.count in
    let inside = c.requires.inside in
    let below : (p : ℕ) → Contains places p → p < c.args.at = λ p h. needs_below c.requires.told.0 K H c.requires.told.1 c.args.at e at p (subst (λ l. Contains l p) are h) in
    let marked : IsMarkedAt marks c.args.at = slice_get-get_or marks c.args.at false (omega arith) ∙ ap Some c.if-marks-at.true in
    let all : All (λ q. q < length marks) places = λ k d l. (let b = below (get_or places k d) (Contains-get_or places k d l) in omega arith) in
    λ goal m. subst (MarksFrom K H goal c.args.at) (sym c.mark.ensures) (more_marks K H goal c.args.at e marks places at marked are below all m)

pub returns-else-marks-at : goal.returns-else-marks-at
returns-else-marks-at c =
    let marks = c.args.marks.now in
    λ goal m. same_marks c.args.patterns.now c.args.journal.now goal c.args.at marks (λ is. true≢false (sym (get_or_from_slice_get marks c.args.at true false is) ∙ c.if-marks-at.false)) m
