-- What is sorted has equal labels side by side.
use Rattle.std.proofs.Common.{List, ℕ, length, ◌≡◌, ◌<◌, sym, subst}
use Rattle.signature_chase.specs.Leaders.{Keyed, keyed_at, SameKey, AreKeyed, AreLed}
use Rattle.signature_chase.proofs.Refining.{rows_once, rows_within, refined}
use Rattle.signature_chase.proofs.leaders.refine.Goals as goal

pub lead-requires-clause-once : goal.lead-requires-clause-once
lead-requires-clause-once c =
    subst (λ (s : List Keyed). (k l : ℕ) → k < length s → l < length s → (keyed_at s k).2 ≡ (keyed_at s l).2 → SameKey (keyed_at s k) (keyed_at s l)) (sym c.deref-2.ensures.value)
    (rows_once c.args.book.now.labels c.args.group.now c.args.place c.deref.result.now c.key_rows.new.keyed.items c.sort_unstable.new.self.items c.in_ok-key_rows.ensures c.sort_unstable.ensures.permutation)

pub lead-requires-clause-rows : goal.lead-requires-clause-rows
lead-requires-clause-rows c =
    subst (λ (s : List Keyed). (k : ℕ) → k < length s → (keyed_at s k).2 < length c.args.leaders.now.items) (sym c.deref-2.ensures.value)
    (λ k h. rw c.requires.leaders.one_each
    (rows_within c.args.book.now.labels c.args.group.now c.args.place c.deref.result.now c.key_rows.new.keyed.items c.sort_unstable.new.self.items c.in_ok-key_rows.ensures c.sort_unstable.ensures.permutation k h))

pub returns : goal.returns
returns c =
    let labels = c.args.book.now.labels in
    let group = c.args.group.now in
    let leaders = c.args.leaders.now.items in
    let keyed = c.key_rows.new.keyed.items in
    let are : AreKeyed labels group c.args.place leaders keyed = subst (λ (ls : List ℕ). AreKeyed labels group c.args.place ls keyed) c.deref.ensures.value c.in_ok-key_rows.ensures in
    let led : AreLed c.sort_unstable.new.self.items c.lead.new.leaders.items (length c.sort_unstable.new.self.items) =
    subst (λ (s : List Keyed). AreLed s c.lead.new.leaders.items (length s)) c.deref-2.ensures.value c.lead.ensures.led in
    refined labels group c.args.place leaders keyed c.sort_unstable.new.self.items are c.sort_unstable.ensures.permutation c.lead.new.leaders.items c.requires.leaders led c.lead.ensures.count c.requires.wide
