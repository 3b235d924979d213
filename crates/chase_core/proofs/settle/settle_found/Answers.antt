-- What is set aside is what the entry brings together.
use Rattle.std.proofs.Common.{rules, ◌≡◌, ◌≢◌, ◌<◌, [], Some, length, slice_get, slice_index, ◌∙◌}
use Rattle.std.proofs.lemmas.Option.{slice_get_within}
use Rattle.std.proofs.lemmas.List.Sorted.{All-permutation}
use Rattle.chase_laws.specs.declared.pair_state.PairState.TheVariants as state
use Rattle.chase_laws.specs.Joined.{Joined}
use Rattle.chase_laws.specs.Core.{name_count}
use Rattle.chase_core.specs.Running.{state_of}
use Rattle.chase_core.specs.Gathering.{LooksAcross, SetsAside}
use Rattle.chase_core.proofs.Across.{ends_named}
use Rattle.chase_core.proofs.Relabelling.{keeps}
use Rattle.chase_core.proofs.Entering.{room_is, brought_exactly}
use Rattle.chase_core.proofs.Woke.{wakes, rise, sorted_once, sorted_up}
use Rattle.chase_core.proofs.settle.settle_found.Goals as goal

pub enter-place-requires-clause-room : goal.enter-place-requires-clause-room
enter-place-requires-clause-room c =
    let T = c.args.setup.now.task in
    let t = c.args.ticket in
    let apart : ¬ (Joined c.args.book.now.journal t.a t.b) = search rules in
    room_is (length c.args.book.now.journal) (length T.pairs) (name_count T) c.args.book.now.room c.requires.room
    (c.law_core.ensures.room T c.prepared.ensures.task (state_of c.args.book.now c.args.table.now) c.requires.sound t.pair (t.a, t.b, c.requires.ends, apart))

pub wake_each-requires-clause-flying : goal.wake_each-requires-clause-flying
wake_each-requires-clause-flying c =
    let states = c.gather_across.new.table.states in
    rw c.deref.ensures.value (All-permutation (λ q. slice_get states q ≡ Some state.Flying) c.gather_across.new.aside.items c.sort_unstable.new.self.items c.sort_unstable.ensures.permutation c.gather_across.ensures.aside.flying)

pub wake_each-requires-clause-once : goal.wake_each-requires-clause-once
wake_each-requires-clause-once c =
    rw c.deref.ensures.value (sorted_once c.gather_across.new.aside.items c.sort_unstable.new.self.items c.sort_unstable.ensures.permutation c.gather_across.ensures.aside.once)

pub returns : goal.returns
returns c =
    let S = c.args.setup.now in
    let T = S.task in
    let t = c.args.ticket in
    let old = c.args.book.now in
    let new = c.enter-place.new.self in
    let zero = c.args.table.now in
    let one = c.mark.new.self in
    let two = c.gather_across.new.table in
    let three = c.wake_each.new.table in
    let aside = c.gather_across.new.aside.items in
    let sorted = c.sort_unstable.new.self.items in
    let r = c.enter-place.ensures in
    let sound = c.requires.sound in
    let x = slice_index old.labels t.a in
    let y = slice_index old.labels t.b in
    let ends = ends_named T c.prepared.ensures.task t.pair t.a t.b c.requires.ends in
    let a_in : t.a < length old.labels = rw sound.one_label_each ends.0 in
    let b_in : t.b < length old.labels = rw sound.one_label_each ends.1 in
    let not_joined : ¬ (Joined old.journal t.a t.b) = search rules in
    let apart : x ≢ y = λ same. not_joined ((sound.labels t.a t.b a_in b_in).0 same) in
    let within : t.pair < length zero.states = rw sound.one_state_each (slice_get_within T.pairs t.pair (t.a, t.b) c.requires.ends) in
    let sets : SetsAside (LooksAcross S old.labels x y) one two [] aside = rw c.clear-2.ensures.items at c.gather_across.ensures.sets in
    let moves = c.sort_unstable.ensures.permutation in
    let up = sorted_up aside sorted moves c.sort_unstable.ensures.sorted c.gather_across.ensures.aside.once in
    let states = rw c.deref.ensures.value at c.wake_each.ensures.states in
    let ready = rw c.deref.ensures.value at c.wake_each.ensures.ready in
    let woke = wakes (LooksAcross S old.labels x y) zero one two three t.pair aside sorted within c.mark.ensures.states c.mark.ensures.ready sets moves up states ready
    T old new (brought_exactly S c.prepared.ensures.task c.prepared.ensures.near old new t.a t.b sound.one_label_each a_in b_in sound.labels apart r.labels zero three) in
    record {
      settles = λ _. (
        (
          c.requires.ends,
          not_joined,
          c.requires.step,
          record { journal = r.journal; count = r.count; labels = r.labelled.classes; kept = keeps old new t.a t.b a_in b_in sound.labels apart r.labels },
          woke,
        ),
        r.place,
      );
      woken = (
        sorted,
        rise (LooksAcross S old.labels x y) zero one two three t.pair aside sorted within c.mark.ensures.states c.mark.ensures.ready sets moves up states ready,
        rw c.clear.ensures.room at (rw c.deref.ensures.value at c.wake_each.ensures.woken),
      );
      room = r.room;
      aside = search rules;
      woken_room = c.wake_each.ensures.room ∙ c.clear.ensures.room;
    }
