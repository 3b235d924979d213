-- Each look leaves its group settled, unless it waits again, and comes nearer to the end.
use Rattle.std.proofs.Common.{List, [], ◌∷◌, ◌++◌, ℕ, Contains, length, ◌≡◌, ◌<◌, ◌≤◌, ◌+◌, ◌⊎◌, inl, inr, refl, sym, ◌∙◌, ap, subst, arith, append_assoc}
use Rattle.std.proofs.lemmas.List.{append-nil}
use Rattle.chase_laws.specs.declared.entry.Entry.{Entry}
use Rattle.valuation_groups.specs.Groups.{group_at, row_in}
use Rattle.signature_chase.specs.Settled.{AreSettledBut}
use Rattle.signature_chase.specs.Setting.{HasRowAt, IsNamedRow}
use Rattle.signature_chase.proofs.Advancing.{settled_but, grown}
use Rattle.signature_chase.proofs.Bounds.{journal_le, look_ends}
use Rattle.signature_chase.proofs.chasing.settle_all.Goals as goal

pub groups-init : goal.groups-init
groups-init c = record {
  derived = c.requires.derived;
  begins = ([], sym (append-nil c.args.book.now.journal));
  settled = λ g in_g none. absurd (none (c.requires.waiting g in_g));
  count = c.requires.count;
}

pub groups-preserved : goal.groups-preserved
groups-preserved c =
    let W = c.args.setting.now in
    let v = c.groups.invariant in
    let place = c.in-Some.place in
    let x = c.in_ok-settle_group.ensures in
    let old = c.groups.book in
    let new = c.settle_group.new.book in
    let named : (g i : ℕ) → HasRowAt W.groups g i → IsNamedRow (length old.labels) (row_in (group_at W.groups g) i) =
    (λ g i h. rw v.derived.count ((c.holds.ensures.grouped g h.0).named i h.1)) in
    record {
      derived = x.derived;
      begins = (v.begins.0 ++ x.advances.begins.0, x.advances.begins.1 ∙ ap (λ (J : List Entry). J ++ x.advances.begins.0) v.begins.1 ∙ append_assoc c.args.book.now.journal v.begins.0 x.advances.begins.0);
      settled = settled_but W.groups old new c.pop.new.self.list c.settle_group.new.queue.list x.advances named place
          (subst (λ (ws : List ℕ). AreSettledBut W.groups ws old.labels) c.in-Some.ensures.first v.settled) x.settled;
      count = x.count ∙ c.pop.ensures.count ∙ v.count;
    }

pub groups-smaller : goal.groups-smaller
groups-smaller c =
    let W = c.args.setting.now in
    let v = c.groups.invariant in
    let x = c.in_ok-settle_group.ensures in
    let new = c.settle_group.new.book in
    let J = c.groups.book.journal in
    let J' = new.journal in
    let w = c.pop.new.self.list in
    let w' = c.settle_group.new.queue.list in
    let q : length c.groups.queue.list ≡ length w + 1 = ap (λ (ws : List ℕ). length ws) c.in-Some.ensures.first ∙ omega arith in
    let few : length w' ≤ length W.groups = omega (arith, c.listed.ensures, x.count, c.pop.ensures.count, v.count) in
    let within : length J' ≤ length W.graph.literal = omega (arith, journal_le new.labels J' x.derived.lean c.journal-journal.ensures.ends, x.derived.count) in
    look_ends (length W.graph.literal) (length J) (length J') (length W.groups) (length c.groups.queue.list) (length w') (grown J J' x.advances.begins) within
    (elim x.advances.gain [
      | inl e ↦ inl (let l : length w' ≡ length w = ap (λ (ws : List ℕ). length ws) e in omega arith)
      | inr lt ↦ inr (lt, few)
    ])
