use Rattle.std.proofs.Common.{◌<◌, ◌≡◌, true, All, length, map, sym, ap, subst, ◌∙◌}
use Rattle.chase_laws.specs.Chase.{IsDerivation}
use Rattle.chase_laws.specs.Joined.{joined_by}
use Rattle.key_file.specs.KeyShape.{KeyShape}
use Rattle.key_file.specs.Compile.{patterns_of}
use Rattle.key_file.specs.Numbered.{names_for, graph_of}
use Rattle.proof_file.specs.Tells.{AreSupported, TellsAll}
use Rattle.why_pair.specs.Kept.{kept_by}
use Rattle.why_pair.specs.Relinked.{places_from, HasPlaces}
use Rattle.why_pair.proofs.NeedLemmas.{way_inside}
use Rattle.why_pair.proofs.PartLemmas.{closed_marks, kept_supported}
use Rattle.why_pair.proofs.FoundLemmas.{way_is, has_places, linked_given, answer_is}
use Rattle.why_pair.proofs.asking.why.Goals as goal

pub marks-requires-clause-goal : goal.marks-requires-clause-goal
marks-requires-clause-goal c =
    let H = c.args.journal.now in
    let joins : joined_by H c.args.a c.args.b ≡ true = ap (λ J. joined_by J c.args.a c.args.b) (sym c.in_ok-ways.ensures) ∙ sym c.joins.ensures ∙ c.if-not-joins.false in
    let are = way_is c.in_ok-ways.ways H c.args.a c.args.b c.new-way.result.items c.put.new.places.items c.deref.result.now c.in_ok-ways.ensures c.new-way.ensures.items c.in_ok-put.ensures.ok c.deref.ensures.value in
    subst (All (λ p. p < length H)) (sym are) (way_inside H c.args.a c.args.b joins)

pub build_proof-requires-clause-supported : goal.build_proof-requires-clause-supported
build_proof-requires-clause-supported c =
    let H = c.args.journal.now in
    let names = c.args.names.now in
    let K = c.args.patterns.now in
    let key_names = c.args.key_names.now in
    let marks = c.in_ok-marks.marks.items in
    let m = c.in_ok-marks.ensures in
    let few = c.if-journal-gt-MOST_ENTRIES.false in
    let told = c.deref-4.ensures.value ∙ c.in_ok-entries.ensures ∙ ap (λ l. kept_by l H) c.deref-2.ensures.value in
    subst (AreSupported (length names) K) (sym told) (kept_supported (length names) K H c.requires.supported marks (closed_marks K H c.deref.result.now marks m))

pub relink-requires-clause-kept : goal.relink-requires-clause-kept
relink-requires-clause-kept c =
    let H = c.args.journal.now in
    let names = c.args.names.now in
    let K = c.args.patterns.now in
    let key_names = c.args.key_names.now in
    let marks = c.in_ok-marks.marks.items in
    let m = c.in_ok-marks.ensures in
    let few = c.if-journal-gt-MOST_ENTRIES.false in
    let entries = c.deref-6.ensures.value ∙ c.in_ok-entries.ensures ∙ ap (λ l. kept_by l H) c.deref-2.ensures.value in
    let kept = c.deref-5.ensures.value ∙ c.in_ok-places.ensures ∙ ap (places_from 0) c.deref-3.ensures.value in
    subst (λ J. HasPlaces (length J) c.deref-5.result.now) (sym c.in_ok-ways.ensures) (has_places marks c.deref-5.result.now (length H) kept m.count few)

pub relink-requires-clause-linked : goal.relink-requires-clause-linked
relink-requires-clause-linked c =
    let H = c.args.journal.now in
    let names = c.args.names.now in
    let K = c.args.patterns.now in
    let key_names = c.args.key_names.now in
    let marks = c.in_ok-marks.marks.items in
    let m = c.in_ok-marks.ensures in
    let few = c.if-journal-gt-MOST_ENTRIES.false in
    let told = c.deref-4.ensures.value ∙ c.in_ok-entries.ensures ∙ ap (λ l. kept_by l H) c.deref-2.ensures.value in
    let entries = c.deref-6.ensures.value ∙ c.in_ok-entries.ensures ∙ ap (λ l. kept_by l H) c.deref-2.ensures.value in
    let kept = c.deref-5.ensures.value ∙ c.in_ok-places.ensures ∙ ap (places_from 0) c.deref-3.ensures.value in
    linked_given names c.len-distinct.ensures.distinct K key_names c.all_valid.ensures.facts H c.requires.supported c.deref.result.now marks m
    c.in_ok-ways.ways c.deref-4.result.now c.deref-6.result.now c.in_ok-proof.proof c.in_ok-ways.ensures told entries c.in_ok-proof.ensures.tells

pub step_numbers-requires-clause-kept : goal.step_numbers-requires-clause-kept
step_numbers-requires-clause-kept c =
    let H = c.args.journal.now in
    let names = c.args.names.now in
    let K = c.args.patterns.now in
    let key_names = c.args.key_names.now in
    let marks = c.in_ok-marks.marks.items in
    let m = c.in_ok-marks.ensures in
    let few = c.if-journal-gt-MOST_ENTRIES.false in
    let goal_kept = c.deref-7.ensures.value ∙ c.in_ok-places.ensures ∙ ap (places_from 0) c.deref-3.ensures.value in
    let has = has_places marks c.deref-7.result.now (length H) goal_kept m.count few in
    subst (λ n. HasPlaces n c.deref-7.result.now) (sym has.one_each) has

pub step_numbers-requires-clause-inside : goal.step_numbers-requires-clause-inside
step_numbers-requires-clause-inside c =
    let H = c.args.journal.now in
    let joins : joined_by H c.args.a c.args.b ≡ true = ap (λ J. joined_by J c.args.a c.args.b) (sym c.in_ok-ways.ensures) ∙ sym c.joins.ensures ∙ c.if-not-joins.false in
    let are = way_is c.in_ok-ways.ways H c.args.a c.args.b c.new-way.result.items c.put.new.places.items c.deref.result.now c.in_ok-ways.ensures c.new-way.ensures.items c.in_ok-put.ensures.ok c.deref.ensures.value in
    let names = c.args.names.now in
    let K = c.args.patterns.now in
    let key_names = c.args.key_names.now in
    let marks = c.in_ok-marks.marks.items in
    let m = c.in_ok-marks.ensures in
    let few = c.if-journal-gt-MOST_ENTRIES.false in
    let goal_kept = c.deref-7.ensures.value ∙ c.in_ok-places.ensures ∙ ap (places_from 0) c.deref-3.ensures.value in
    let has = has_places marks c.deref-7.result.now (length H) goal_kept m.count few in
    subst (λ n. All (λ p. p < n) c.deref-8.result.now) (sym has.one_each)
    (subst (All (λ p. p < length H)) (sym (c.deref-8.ensures.value ∙ sym c.deref.ensures.value ∙ are)) (way_inside H c.args.a c.args.b joins))

pub returns-clause-leads : goal.returns-clause-leads
returns-clause-leads c =
    let H = c.args.journal.now in
    let joins : joined_by H c.args.a c.args.b ≡ true = ap (λ J. joined_by J c.args.a c.args.b) (sym c.in_ok-ways.ensures) ∙ sym c.joins.ensures ∙ c.if-not-joins.false in
    let are = way_is c.in_ok-ways.ways H c.args.a c.args.b c.new-way.result.items c.put.new.places.items c.deref.result.now c.in_ok-ways.ensures c.new-way.ensures.items c.in_ok-put.ensures.ok c.deref.ensures.value in
    let names = c.args.names.now in
    let K = c.args.patterns.now in
    let key_names = c.args.key_names.now in
    let marks = c.in_ok-marks.marks.items in
    let m = c.in_ok-marks.ensures in
    let few = c.if-journal-gt-MOST_ENTRIES.false in
    let told = c.deref-4.ensures.value ∙ c.in_ok-entries.ensures ∙ ap (λ l. kept_by l H) c.deref-2.ensures.value in
    let entries = c.deref-6.ensures.value ∙ c.in_ok-entries.ensures ∙ ap (λ l. kept_by l H) c.deref-2.ensures.value in
    let kept = c.deref-5.ensures.value ∙ c.in_ok-places.ensures ∙ ap (places_from 0) c.deref-3.ensures.value in
    let goal_kept = c.deref-7.ensures.value ∙ c.in_ok-places.ensures ∙ ap (places_from 0) c.deref-3.ensures.value in
    let goal_places = c.deref-8.ensures.value ∙ sym c.deref.ensures.value in
    let answer = answer_is names c.len-distinct.ensures.distinct K key_names c.all_valid.ensures.facts H c.requires.supported c.deref.result.now c.args.a c.args.b c.requires.a c.requires.b joins are marks m
    c.in_ok-ways.ways c.deref-4.result.now c.deref-6.result.now c.deref-5.result.now c.deref-7.result.now c.deref-8.result.now c.in_ok-goal.goal.items c.in_ok-proof.proof c.in_ok-proof-2.proof
    c.in_ok-ways.ensures told entries kept goal_kept goal_places c.in_ok-proof.ensures.tells c.in_ok-proof-2.ensures c.in_ok-goal.ensures in
    answer.leads

pub returns-clause-once : goal.returns-clause-once
returns-clause-once c =
    let H = c.args.journal.now in
    let joins : joined_by H c.args.a c.args.b ≡ true = ap (λ J. joined_by J c.args.a c.args.b) (sym c.in_ok-ways.ensures) ∙ sym c.joins.ensures ∙ c.if-not-joins.false in
    let are = way_is c.in_ok-ways.ways H c.args.a c.args.b c.new-way.result.items c.put.new.places.items c.deref.result.now c.in_ok-ways.ensures c.new-way.ensures.items c.in_ok-put.ensures.ok c.deref.ensures.value in
    let names = c.args.names.now in
    let K = c.args.patterns.now in
    let key_names = c.args.key_names.now in
    let marks = c.in_ok-marks.marks.items in
    let m = c.in_ok-marks.ensures in
    let few = c.if-journal-gt-MOST_ENTRIES.false in
    let told = c.deref-4.ensures.value ∙ c.in_ok-entries.ensures ∙ ap (λ l. kept_by l H) c.deref-2.ensures.value in
    let entries = c.deref-6.ensures.value ∙ c.in_ok-entries.ensures ∙ ap (λ l. kept_by l H) c.deref-2.ensures.value in
    let kept = c.deref-5.ensures.value ∙ c.in_ok-places.ensures ∙ ap (places_from 0) c.deref-3.ensures.value in
    let goal_kept = c.deref-7.ensures.value ∙ c.in_ok-places.ensures ∙ ap (places_from 0) c.deref-3.ensures.value in
    let goal_places = c.deref-8.ensures.value ∙ sym c.deref.ensures.value in
    let answer = answer_is names c.len-distinct.ensures.distinct K key_names c.all_valid.ensures.facts H c.requires.supported c.deref.result.now c.args.a c.args.b c.requires.a c.requires.b joins are marks m
    c.in_ok-ways.ways c.deref-4.result.now c.deref-6.result.now c.deref-5.result.now c.deref-7.result.now c.deref-8.result.now c.in_ok-goal.goal.items c.in_ok-proof.proof c.in_ok-proof-2.proof
    c.in_ok-ways.ensures told entries kept goal_kept goal_places c.in_ok-proof.ensures.tells c.in_ok-proof-2.ensures c.in_ok-goal.ensures in
    answer.once

pub returns-clause-supports_once : goal.returns-clause-supports_once
returns-clause-supports_once c =
    let H = c.args.journal.now in
    let joins : joined_by H c.args.a c.args.b ≡ true = ap (λ J. joined_by J c.args.a c.args.b) (sym c.in_ok-ways.ensures) ∙ sym c.joins.ensures ∙ c.if-not-joins.false in
    let are = way_is c.in_ok-ways.ways H c.args.a c.args.b c.new-way.result.items c.put.new.places.items c.deref.result.now c.in_ok-ways.ensures c.new-way.ensures.items c.in_ok-put.ensures.ok c.deref.ensures.value in
    let names = c.args.names.now in
    let K = c.args.patterns.now in
    let key_names = c.args.key_names.now in
    let marks = c.in_ok-marks.marks.items in
    let m = c.in_ok-marks.ensures in
    let few = c.if-journal-gt-MOST_ENTRIES.false in
    let told = c.deref-4.ensures.value ∙ c.in_ok-entries.ensures ∙ ap (λ l. kept_by l H) c.deref-2.ensures.value in
    let entries = c.deref-6.ensures.value ∙ c.in_ok-entries.ensures ∙ ap (λ l. kept_by l H) c.deref-2.ensures.value in
    let kept = c.deref-5.ensures.value ∙ c.in_ok-places.ensures ∙ ap (places_from 0) c.deref-3.ensures.value in
    let goal_kept = c.deref-7.ensures.value ∙ c.in_ok-places.ensures ∙ ap (places_from 0) c.deref-3.ensures.value in
    let goal_places = c.deref-8.ensures.value ∙ sym c.deref.ensures.value in
    let answer = answer_is names c.len-distinct.ensures.distinct K key_names c.all_valid.ensures.facts H c.requires.supported c.deref.result.now c.args.a c.args.b c.requires.a c.requires.b joins are marks m
    c.in_ok-ways.ways c.deref-4.result.now c.deref-6.result.now c.deref-5.result.now c.deref-7.result.now c.deref-8.result.now c.in_ok-goal.goal.items c.in_ok-proof.proof c.in_ok-proof-2.proof
    c.in_ok-ways.ensures told entries kept goal_kept goal_places c.in_ok-proof.ensures.tells c.in_ok-proof-2.ensures c.in_ok-goal.ensures in
    answer.supports_once

pub returns-clause-reached : goal.returns-clause-reached
returns-clause-reached c =
    let H = c.args.journal.now in
    let joins : joined_by H c.args.a c.args.b ≡ true = ap (λ J. joined_by J c.args.a c.args.b) (sym c.in_ok-ways.ensures) ∙ sym c.joins.ensures ∙ c.if-not-joins.false in
    let are = way_is c.in_ok-ways.ways H c.args.a c.args.b c.new-way.result.items c.put.new.places.items c.deref.result.now c.in_ok-ways.ensures c.new-way.ensures.items c.in_ok-put.ensures.ok c.deref.ensures.value in
    let names = c.args.names.now in
    let K = c.args.patterns.now in
    let key_names = c.args.key_names.now in
    let marks = c.in_ok-marks.marks.items in
    let m = c.in_ok-marks.ensures in
    let few = c.if-journal-gt-MOST_ENTRIES.false in
    let told = c.deref-4.ensures.value ∙ c.in_ok-entries.ensures ∙ ap (λ l. kept_by l H) c.deref-2.ensures.value in
    let entries = c.deref-6.ensures.value ∙ c.in_ok-entries.ensures ∙ ap (λ l. kept_by l H) c.deref-2.ensures.value in
    let kept = c.deref-5.ensures.value ∙ c.in_ok-places.ensures ∙ ap (places_from 0) c.deref-3.ensures.value in
    let goal_kept = c.deref-7.ensures.value ∙ c.in_ok-places.ensures ∙ ap (places_from 0) c.deref-3.ensures.value in
    let goal_places = c.deref-8.ensures.value ∙ sym c.deref.ensures.value in
    let answer = answer_is names c.len-distinct.ensures.distinct K key_names c.all_valid.ensures.facts H c.requires.supported c.deref.result.now c.args.a c.args.b c.requires.a c.requires.b joins are marks m
    c.in_ok-ways.ways c.deref-4.result.now c.deref-6.result.now c.deref-5.result.now c.deref-7.result.now c.deref-8.result.now c.in_ok-goal.goal.items c.in_ok-proof.proof c.in_ok-proof-2.proof
    c.in_ok-ways.ensures told entries kept goal_kept goal_places c.in_ok-proof.ensures.tells c.in_ok-proof-2.ensures c.in_ok-goal.ensures in
    answer.reached

pub returns-clause-tells : goal.returns-clause-tells
returns-clause-tells c =
    let H = c.args.journal.now in
    let joins : joined_by H c.args.a c.args.b ≡ true = ap (λ J. joined_by J c.args.a c.args.b) (sym c.in_ok-ways.ensures) ∙ sym c.joins.ensures ∙ c.if-not-joins.false in
    let are = way_is c.in_ok-ways.ways H c.args.a c.args.b c.new-way.result.items c.put.new.places.items c.deref.result.now c.in_ok-ways.ensures c.new-way.ensures.items c.in_ok-put.ensures.ok c.deref.ensures.value in
    let names = c.args.names.now in
    let K = c.args.patterns.now in
    let key_names = c.args.key_names.now in
    let marks = c.in_ok-marks.marks.items in
    let m = c.in_ok-marks.ensures in
    let few = c.if-journal-gt-MOST_ENTRIES.false in
    let told = c.deref-4.ensures.value ∙ c.in_ok-entries.ensures ∙ ap (λ l. kept_by l H) c.deref-2.ensures.value in
    let entries = c.deref-6.ensures.value ∙ c.in_ok-entries.ensures ∙ ap (λ l. kept_by l H) c.deref-2.ensures.value in
    let kept = c.deref-5.ensures.value ∙ c.in_ok-places.ensures ∙ ap (places_from 0) c.deref-3.ensures.value in
    let goal_kept = c.deref-7.ensures.value ∙ c.in_ok-places.ensures ∙ ap (places_from 0) c.deref-3.ensures.value in
    let goal_places = c.deref-8.ensures.value ∙ sym c.deref.ensures.value in
    let answer = answer_is names c.len-distinct.ensures.distinct K key_names c.all_valid.ensures.facts H c.requires.supported c.deref.result.now c.args.a c.args.b c.requires.a c.requires.b joins are marks m
    c.in_ok-ways.ways c.deref-4.result.now c.deref-6.result.now c.deref-5.result.now c.deref-7.result.now c.deref-8.result.now c.in_ok-goal.goal.items c.in_ok-proof.proof c.in_ok-proof-2.proof
    c.in_ok-ways.ensures told entries kept goal_kept goal_places c.in_ok-proof.ensures.tells c.in_ok-proof-2.ensures c.in_ok-goal.ensures in
    answer.tells

pub returns-clause-accepted : goal.returns-clause-accepted
returns-clause-accepted c =
    let H = c.args.journal.now in
    let joins : joined_by H c.args.a c.args.b ≡ true = ap (λ J. joined_by J c.args.a c.args.b) (sym c.in_ok-ways.ensures) ∙ sym c.joins.ensures ∙ c.if-not-joins.false in
    let are = way_is c.in_ok-ways.ways H c.args.a c.args.b c.new-way.result.items c.put.new.places.items c.deref.result.now c.in_ok-ways.ensures c.new-way.ensures.items c.in_ok-put.ensures.ok c.deref.ensures.value in
    let names = c.args.names.now in
    let K = c.args.patterns.now in
    let key_names = c.args.key_names.now in
    let marks = c.in_ok-marks.marks.items in
    let m = c.in_ok-marks.ensures in
    let few = c.if-journal-gt-MOST_ENTRIES.false in
    let told = c.deref-4.ensures.value ∙ c.in_ok-entries.ensures ∙ ap (λ l. kept_by l H) c.deref-2.ensures.value in
    let entries = c.deref-6.ensures.value ∙ c.in_ok-entries.ensures ∙ ap (λ l. kept_by l H) c.deref-2.ensures.value in
    let kept = c.deref-5.ensures.value ∙ c.in_ok-places.ensures ∙ ap (places_from 0) c.deref-3.ensures.value in
    let goal_kept = c.deref-7.ensures.value ∙ c.in_ok-places.ensures ∙ ap (places_from 0) c.deref-3.ensures.value in
    let goal_places = c.deref-8.ensures.value ∙ sym c.deref.ensures.value in
    let answer = answer_is names c.len-distinct.ensures.distinct K key_names c.all_valid.ensures.facts H c.requires.supported c.deref.result.now c.args.a c.args.b c.requires.a c.requires.b joins are marks m
    c.in_ok-ways.ways c.deref-4.result.now c.deref-6.result.now c.deref-5.result.now c.deref-7.result.now c.deref-8.result.now c.in_ok-goal.goal.items c.in_ok-proof.proof c.in_ok-proof-2.proof
    c.in_ok-ways.ensures told entries kept goal_kept goal_places c.in_ok-proof.ensures.tells c.in_ok-proof-2.ensures c.in_ok-goal.ensures in
    let part = answer.tells in
    let steps = c.in_ok-proof-2.proof in
    λ triples keys is_keys names_are patterns_are key_names_are derivation.
    let G = graph_of (names_for triples keys) triples in
    let some = kept_by part.marks H in
    c.law_proof.ensures.accepted triples keys some steps is_keys (subst (λ P. IsDerivation G P some) patterns_are (part.derivation G derivation))
    (subst (λ n. TellsAll n (patterns_of (names_for triples keys) keys) (map (λ (k : KeyShape). k.name) keys) some steps) names_are
    (subst (λ P. TellsAll names P (map (λ (k : KeyShape). k.name) keys) some steps) patterns_are
    (subst (λ ks. TellsAll names K ks some steps) key_names_are part.tells)))
