use Rattle.std.proofs.Common.{◌∙◌, ap, subst, arith, ◌<◌, ◌≡◌, ◌≢◌, length, get_or}
use Rattle.std.proofs.lemmas.List.{get_or_default, length-map}
use Rattle.std.proofs.lemmas.List.Elements.{All-get_or}
use Rattle.list_pool.specs.Pool.{joined_lists}
use Rattle.chase_laws.specs.Joined.{Joined}
use Rattle.class_book.specs.Classes.{Classes, going, staying, relabelled, IsLabelled}
use Rattle.class_book.proofs.Choosing.{picked, staying_in_range, going_in_range, parted, either, at_most_half}
use Rattle.class_book.proofs.Entered.{ends_more, entered_by}
use Rattle.class_book.proofs.Merging.{moved}
use Rattle.class_book.proofs.Joins.{Law}
use Rattle.class_book.proofs.book.Book.enter.Goals as goal

pub merge-requires-clause-to : goal.merge-requires-clause-to
merge-requires-clause-to c =
    let inside = c.self.inside in
    let labels = inside.labels.items in
    let a = c.args.entry.a in
    let b = c.args.entry.b in
    let x = get_or labels a 0 in
    let y = get_or labels b 0 in
    let a_in : a < length labels = omega (arith, ap (λ (v : Classes). length v.labels) c.self.view_is, c.requires.a) in
    let b_in : b < length labels = omega (arith, ap (λ (v : Classes). length v.labels) c.self.view_is, c.requires.b) in
    let x_in = All-get_or (λ l. l < length labels) labels a 0 a_in c.self.invariant.labelled.in_range in
    let y_in = All-get_or (λ l. l < length labels) labels b 0 b_in c.self.invariant.labelled.in_range in
    let first : c.index-first.result.now ≡ x = c.index-first.ensures ∙ get_or_default labels a c.index-first.result.now 0 a_in in
    let second : c.index-second.result.now ≡ y = c.index-second.ensures ∙ get_or_default labels b c.index-second.result.now 0 b_in in
    let picks = picked labels inside.sizes.items c.deref.result.now inside.members.lists a b c.index-first.result.now c.index-second.result.now c.stay_and_go-to.result
    c.self.invariant.roster c.self.invariant.labelled.in_range a_in b_in c.deref.ensures.value first second c.stay_and_go-to.ensures in
    rw picks.0 (staying_in_range labels x y x_in y_in)

pub merge-requires-clause-from : goal.merge-requires-clause-from
merge-requires-clause-from c =
    let inside = c.self.inside in
    let labels = inside.labels.items in
    let a = c.args.entry.a in
    let b = c.args.entry.b in
    let x = get_or labels a 0 in
    let y = get_or labels b 0 in
    let a_in : a < length labels = omega (arith, ap (λ (v : Classes). length v.labels) c.self.view_is, c.requires.a) in
    let b_in : b < length labels = omega (arith, ap (λ (v : Classes). length v.labels) c.self.view_is, c.requires.b) in
    let x_in = All-get_or (λ l. l < length labels) labels a 0 a_in c.self.invariant.labelled.in_range in
    let y_in = All-get_or (λ l. l < length labels) labels b 0 b_in c.self.invariant.labelled.in_range in
    let first : c.index-first.result.now ≡ x = c.index-first.ensures ∙ get_or_default labels a c.index-first.result.now 0 a_in in
    let second : c.index-second.result.now ≡ y = c.index-second.ensures ∙ get_or_default labels b c.index-second.result.now 0 b_in in
    let picks = picked labels inside.sizes.items c.deref.result.now inside.members.lists a b c.index-first.result.now c.index-second.result.now c.stay_and_go-to.result
    c.self.invariant.roster c.self.invariant.labelled.in_range a_in b_in c.deref.ensures.value first second c.stay_and_go-to.ensures in
    rw picks.1 (going_in_range labels x y x_in y_in)

pub merge-requires-clause-apart : goal.merge-requires-clause-apart
merge-requires-clause-apart c =
    let inside = c.self.inside in
    let labels = inside.labels.items in
    let a = c.args.entry.a in
    let b = c.args.entry.b in
    let x = get_or labels a 0 in
    let y = get_or labels b 0 in
    let a_in : a < length labels = omega (arith, ap (λ (v : Classes). length v.labels) c.self.view_is, c.requires.a) in
    let b_in : b < length labels = omega (arith, ap (λ (v : Classes). length v.labels) c.self.view_is, c.requires.b) in
    let x_in = All-get_or (λ l. l < length labels) labels a 0 a_in c.self.invariant.labelled.in_range in
    let y_in = All-get_or (λ l. l < length labels) labels b 0 b_in c.self.invariant.labelled.in_range in
    let first : c.index-first.result.now ≡ x = c.index-first.ensures ∙ get_or_default labels a c.index-first.result.now 0 a_in in
    let second : c.index-second.result.now ≡ y = c.index-second.ensures ∙ get_or_default labels b c.index-second.result.now 0 b_in in
    let picks = picked labels inside.sizes.items c.deref.result.now inside.members.lists a b c.index-first.result.now c.index-second.result.now c.stay_and_go-to.result
    c.self.invariant.roster c.self.invariant.labelled.in_range a_in b_in c.deref.ensures.value first second c.stay_and_go-to.ensures in
    let apart : x ≢ y = λ e. c.requires.apart (subst (λ (v : Classes). Joined v.journal a b) c.self.view_is ((c.self.invariant.labelled.classes a b a_in b_in).0 e)) in
    rw (picks.0, picks.1) (parted labels x y apart)

pub invariant_of-self : goal.invariant_of-self
invariant_of-self c =
    let inside = c.self.inside in
    let labels = inside.labels.items in
    let a = c.args.entry.a in
    let b = c.args.entry.b in
    let x = get_or labels a 0 in
    let y = get_or labels b 0 in
    let a_in : a < length labels = omega (arith, ap (λ (v : Classes). length v.labels) c.self.view_is, c.requires.a) in
    let b_in : b < length labels = omega (arith, ap (λ (v : Classes). length v.labels) c.self.view_is, c.requires.b) in
    let x_in = All-get_or (λ l. l < length labels) labels a 0 a_in c.self.invariant.labelled.in_range in
    let y_in = All-get_or (λ l. l < length labels) labels b 0 b_in c.self.invariant.labelled.in_range in
    let first : c.index-first.result.now ≡ x = c.index-first.ensures ∙ get_or_default labels a c.index-first.result.now 0 a_in in
    let second : c.index-second.result.now ≡ y = c.index-second.ensures ∙ get_or_default labels b c.index-second.result.now 0 b_in in
    let picks = picked labels inside.sizes.items c.deref.result.now inside.members.lists a b c.index-first.result.now c.index-second.result.now c.stay_and_go-to.result
    c.self.invariant.roster c.self.invariant.labelled.in_range a_in b_in c.deref.ensures.value first second c.stay_and_go-to.ensures in
    let made : c.merge.new.labels.items ≡ relabelled labels (going labels x y) (staying labels x y) =
    c.merge.ensures.labels ∙ ap (λ v. relabelled labels v c.stay_and_go-to.result.0) picks.1 ∙ ap (relabelled labels (going labels x y)) picks.0 in
    let said = c.law_joined.ensures in
    let law : Law = record { reflexive = said.reflexive; symmetric = said.symmetric; transitive = said.transitive; last = said.last; grows = said.grows } in
    let labelled : IsLabelled c.merge.new.labels.items c.push_reserved.new.self.items = rw (made, c.push_reserved.ensures.items)
    (entered_by law labels inside.journal.items c.args.entry (staying labels x y) (going labels x y) c.self.invariant.labelled a_in b_in (either labels x y)) in
    let count : length c.merge.new.labels.items ≡ length labels = ap length made ∙ length-map labels (moved (going labels x y) (staying labels x y)) in
    record {
      labelled = labelled;
      ends = rw c.push_reserved.ensures.items (ends_more labels c.merge.new.labels.items inside.journal.items c.args.entry count c.self.invariant.ends a_in b_in);
      roster = c.merge.ensures.roster;
      narrow = omega (arith, c.push_reserved.ensures.capacity, c.self.invariant.narrow);
    }

pub returns-clause-labels : goal.returns-clause-labels
returns-clause-labels c =
    let inside = c.self.inside in
    let labels = inside.labels.items in
    let a = c.args.entry.a in
    let b = c.args.entry.b in
    let x = get_or labels a 0 in
    let y = get_or labels b 0 in
    let a_in : a < length labels = omega (arith, ap (λ (v : Classes). length v.labels) c.self.view_is, c.requires.a) in
    let b_in : b < length labels = omega (arith, ap (λ (v : Classes). length v.labels) c.self.view_is, c.requires.b) in
    let x_in = All-get_or (λ l. l < length labels) labels a 0 a_in c.self.invariant.labelled.in_range in
    let y_in = All-get_or (λ l. l < length labels) labels b 0 b_in c.self.invariant.labelled.in_range in
    let first : c.index-first.result.now ≡ x = c.index-first.ensures ∙ get_or_default labels a c.index-first.result.now 0 a_in in
    let second : c.index-second.result.now ≡ y = c.index-second.ensures ∙ get_or_default labels b c.index-second.result.now 0 b_in in
    let picks = picked labels inside.sizes.items c.deref.result.now inside.members.lists a b c.index-first.result.now c.index-second.result.now c.stay_and_go-to.result
    c.self.invariant.roster c.self.invariant.labelled.in_range a_in b_in c.deref.ensures.value first second c.stay_and_go-to.ensures in
    let made : c.merge.new.labels.items ≡ relabelled labels (going labels x y) (staying labels x y) =
    c.merge.ensures.labels ∙ ap (λ v. relabelled labels v c.stay_and_go-to.result.0) picks.1 ∙ ap (relabelled labels (going labels x y)) picks.0 in
    rw (← c.self.view_is) made

pub returns-clause-members : goal.returns-clause-members
returns-clause-members c =
    let inside = c.self.inside in
    let labels = inside.labels.items in
    let a = c.args.entry.a in
    let b = c.args.entry.b in
    let x = get_or labels a 0 in
    let y = get_or labels b 0 in
    let a_in : a < length labels = omega (arith, ap (λ (v : Classes). length v.labels) c.self.view_is, c.requires.a) in
    let b_in : b < length labels = omega (arith, ap (λ (v : Classes). length v.labels) c.self.view_is, c.requires.b) in
    let x_in = All-get_or (λ l. l < length labels) labels a 0 a_in c.self.invariant.labelled.in_range in
    let y_in = All-get_or (λ l. l < length labels) labels b 0 b_in c.self.invariant.labelled.in_range in
    let first : c.index-first.result.now ≡ x = c.index-first.ensures ∙ get_or_default labels a c.index-first.result.now 0 a_in in
    let second : c.index-second.result.now ≡ y = c.index-second.ensures ∙ get_or_default labels b c.index-second.result.now 0 b_in in
    let picks = picked labels inside.sizes.items c.deref.result.now inside.members.lists a b c.index-first.result.now c.index-second.result.now c.stay_and_go-to.result
    c.self.invariant.roster c.self.invariant.labelled.in_range a_in b_in c.deref.ensures.value first second c.stay_and_go-to.ensures in
    rw (← c.self.view_is)
    (c.merge.ensures.members ∙ ap (λ v. joined_lists inside.members.lists v c.stay_and_go-to.result.1) picks.0 ∙ ap (joined_lists inside.members.lists (staying labels x y)) picks.1)

pub returns-clause-half : goal.returns-clause-half
returns-clause-half c =
    let inside = c.self.inside in
    let labels = inside.labels.items in
    let a = c.args.entry.a in
    let b = c.args.entry.b in
    let x = get_or labels a 0 in
    let y = get_or labels b 0 in
    let a_in : a < length labels = omega (arith, ap (λ (v : Classes). length v.labels) c.self.view_is, c.requires.a) in
    let b_in : b < length labels = omega (arith, ap (λ (v : Classes). length v.labels) c.self.view_is, c.requires.b) in
    let x_in = All-get_or (λ l. l < length labels) labels a 0 a_in c.self.invariant.labelled.in_range in
    let y_in = All-get_or (λ l. l < length labels) labels b 0 b_in c.self.invariant.labelled.in_range in
    let first : c.index-first.result.now ≡ x = c.index-first.ensures ∙ get_or_default labels a c.index-first.result.now 0 a_in in
    let second : c.index-second.result.now ≡ y = c.index-second.ensures ∙ get_or_default labels b c.index-second.result.now 0 b_in in
    let picks = picked labels inside.sizes.items c.deref.result.now inside.members.lists a b c.index-first.result.now c.index-second.result.now c.stay_and_go-to.result
    c.self.invariant.roster c.self.invariant.labelled.in_range a_in b_in c.deref.ensures.value first second c.stay_and_go-to.ensures in
    let made : c.merge.new.labels.items ≡ relabelled labels (going labels x y) (staying labels x y) =
    c.merge.ensures.labels ∙ ap (λ v. relabelled labels v c.stay_and_go-to.result.0) picks.1 ∙ ap (relabelled labels (going labels x y)) picks.0 in
    let apart : x ≢ y = λ e. c.requires.apart (subst (λ (v : Classes). Joined v.journal a b) c.self.view_is ((c.self.invariant.labelled.classes a b a_in b_in).0 e)) in
    rw (← c.self.view_is, made) (at_most_half labels x y apart)

pub returns-clause-labelled : goal.returns-clause-labelled
returns-clause-labelled c =
    let inside = c.self.inside in
    let labels = inside.labels.items in
    let a = c.args.entry.a in
    let b = c.args.entry.b in
    let x = get_or labels a 0 in
    let y = get_or labels b 0 in
    let a_in : a < length labels = omega (arith, ap (λ (v : Classes). length v.labels) c.self.view_is, c.requires.a) in
    let b_in : b < length labels = omega (arith, ap (λ (v : Classes). length v.labels) c.self.view_is, c.requires.b) in
    let x_in = All-get_or (λ l. l < length labels) labels a 0 a_in c.self.invariant.labelled.in_range in
    let y_in = All-get_or (λ l. l < length labels) labels b 0 b_in c.self.invariant.labelled.in_range in
    let first : c.index-first.result.now ≡ x = c.index-first.ensures ∙ get_or_default labels a c.index-first.result.now 0 a_in in
    let second : c.index-second.result.now ≡ y = c.index-second.ensures ∙ get_or_default labels b c.index-second.result.now 0 b_in in
    let picks = picked labels inside.sizes.items c.deref.result.now inside.members.lists a b c.index-first.result.now c.index-second.result.now c.stay_and_go-to.result
    c.self.invariant.roster c.self.invariant.labelled.in_range a_in b_in c.deref.ensures.value first second c.stay_and_go-to.ensures in
    let made : c.merge.new.labels.items ≡ relabelled labels (going labels x y) (staying labels x y) =
    c.merge.ensures.labels ∙ ap (λ v. relabelled labels v c.stay_and_go-to.result.0) picks.1 ∙ ap (relabelled labels (going labels x y)) picks.0 in
    let said = c.law_joined.ensures in
    let law : Law = record { reflexive = said.reflexive; symmetric = said.symmetric; transitive = said.transitive; last = said.last; grows = said.grows } in
    let labelled : IsLabelled c.merge.new.labels.items c.push_reserved.new.self.items = rw (made, c.push_reserved.ensures.items)
    (entered_by law labels inside.journal.items c.args.entry (staying labels x y) (going labels x y) c.self.invariant.labelled a_in b_in (either labels x y)) in
    labelled
