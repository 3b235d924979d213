-- Which pairs an entry wakes.
use Rattle.std.proofs.Common.{ℕ, slice_index, length, min, ◌≡◌, ◌≢◌, ◌<◌, ◌-◌, ◌+◌, ◌↔◌, inl, inr, sym, ◌∙◌, subst, arith}
use Rattle.std.proofs.lemmas.Option.{some_pair_parts}
use Rattle.chase_laws.specs.Near.{IsNear}
use Rattle.chase_laws.specs.Joined.{LabelsJoin}
use Rattle.chase_laws.specs.Core.{IsTask, name_count, PairAt, AreBroughtTogether}
use Rattle.chase_laws.proofs.CallerLemmas.{near_named}
use Rattle.class_book.specs.Classes.{Classes, relabelled, staying, going}
use Rattle.near_lists.specs.Neighbourhoods.{AreNearNames}
use Rattle.chase_core.specs.Setup.{Preparation}
use Rattle.chase_core.specs.Table.{Standings}
use Rattle.chase_core.specs.Running.{state_of}
use Rattle.chase_core.specs.Gathering.{LooksAt, LooksAcross}
use Rattle.chase_core.proofs.Across.{ends_named}
use Rattle.chase_core.proofs.Relabelling.{brought_from, brought_to}

-- the room that is left while the journal is shorter
pub room_is : (n pairs names room : ℕ) → room ≡ min pairs (names - 1) → (n < pairs) × (n + 1 < names) → n < room
room_is n pairs names room e h = omega arith

module _ (S : Preparation) (ok : IsTask S.task) (near : AreNearNames S.task.graph S.task.patterns S.near.near) (old new : Classes) (a b : ℕ) (names : length old.labels ≡ name_count S.task)
    (a_in : a < length old.labels) (b_in : b < length old.labels) (joins : LabelsJoin old.labels old.journal) (apart : slice_index old.labels a ≢ slice_index old.labels b)
    (labels : let x = slice_index old.labels a in let y = slice_index old.labels b in new.labels ≡ relabelled old.labels (going old.labels x y) (staying old.labels x y))
    (zero three : Standings) where
  named : (e n : ℕ) → IsNear S.task.graph S.task.patterns e n → n < length old.labels
  named e n h = near_named S.task ok old.labels names e n h

  -- what is near to an end and has a label
  looks : (e n l : ℕ) → e < name_count S.task → IsNear S.task.graph S.task.patterns e n → slice_index old.labels n ≡ l → LooksAt S old.labels e l
  looks e n l h is at = (n, (near.exact e n h).1 is, at)

  is_near : (e l : ℕ) → e < name_count S.task → LooksAt S old.labels e l → (n : ℕ) × IsNear S.task.graph S.task.patterns e n × (slice_index old.labels n ≡ l)
  is_near e l h k = (k.0, (near.exact e k.0 h).0 k.1, k.2)

  together : (e o : ℕ) → e < name_count S.task → o < name_count S.task → LooksAt S old.labels e (slice_index old.labels a) → LooksAt S old.labels o (slice_index old.labels b) →
      AreBroughtTogether S.task (state_of old zero) (state_of new three) e o
  together e o e_in o_in h k =
      let m = is_near e (slice_index old.labels a) e_in h in
      let n = is_near o (slice_index old.labels b) o_in k in
      (m.0, n.0, m.1, n.1, (λ same. apart (sym m.2 ∙ same ∙ n.2)), brought_to old new a b a_in b_in joins apart labels m.0 n.0 (named e m.0 m.1) (named o n.0 n.1) m.2 n.2)

  turned : (e o : ℕ) → AreBroughtTogether S.task (state_of old zero) (state_of new three) e o → AreBroughtTogether S.task (state_of old zero) (state_of new three) o e
  turned e o h = (h.1, h.0, h.3, h.2, (λ same. h.4 (sym same)), sym h.5)

  -- the ends of a pair are brought together where one looks at the one class, and the other at the other
  pub brought_exactly : (q c d : ℕ) → PairAt S.task q c d →
      AreBroughtTogether S.task (state_of old zero) (state_of new three) c d ↔ LooksAcross S old.labels (slice_index old.labels a) (slice_index old.labels b) q
  brought_exactly q c d at =
      let x = slice_index old.labels a in
      let y = slice_index old.labels b in
      let ends = ends_named S.task ok q c d at in (
        (λ h. elim (brought_from old new a b a_in b_in joins apart labels h.0 h.1 (named c h.0 h.2) (named d h.1 h.3) h.4 h.5) [
          | inl k ↦ (c, d, inl at, looks c h.0 x ends.0 h.2 k.0, looks d h.1 y ends.1 h.3 k.1)
          | inr k ↦ (d, c, inr at, looks d h.1 x ends.1 h.3 k.1, looks c h.0 y ends.0 h.2 k.0)
        ]),
        (λ h. elim h.2 [
          | inl k ↦ (let r = some_pair_parts c h.0 d h.1 (sym at ∙ k) in
              together c d ends.0 ends.1 (subst (λ e. LooksAt S old.labels e x) (sym r.0) h.3) (subst (λ e. LooksAt S old.labels e y) (sym r.1) h.4))
          | inr k ↦ (let r = some_pair_parts c h.1 d h.0 (sym at ∙ k) in
              turned d c (together d c ends.1 ends.0 (subst (λ e. LooksAt S old.labels e x) (sym r.1) h.3) (subst (λ e. LooksAt S old.labels e y) (sym r.0) h.4)))
        ]),
      )
