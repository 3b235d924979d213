-- The labels that are shown after an entry.
use Rattle.std.proofs.Common.{List, [], ◌∷◌, ℕ, true, cond, length, get_or, ◌≡◌, ◌<◌, inl, inr, sym, ◌∙◌, ap, subst, arith, ne_eqb, true≢false}
use Rattle.std.proofs.lemmas.Bool.{cases_Bool}
use Rattle.std.proofs.lemmas.List.{ext_get_or, get_or-map, length-map, map-append}
use Rattle.chase_laws.specs.declared.entry.Entry.{Entry}
use Rattle.chase_laws.specs.Joined.{Joined, joined, joined_by, links}
use Rattle.chase_laws.proofs.CallerLemmas.{joined_last, joined_trans}
use Rattle.class_book.specs.Classes.{Classes, IsLabelled, going, staying}
use Rattle.class_book.proofs.CallerLemmas.{either, moved}
use Rattle.label_board.specs.Seen.{HasEntered, ShowsClass}
use Rattle.label_board.proofs.Keeps.{stays_joined}

module _ (before : Classes) (e : Entry) (book : Classes) (labelled : IsLabelled before.labels before.journal) (entered : HasEntered before e book) where
  abbrev from : ℕ
  from = going before.labels (get_or before.labels e.a 0) (get_or before.labels e.b 0)

  abbrev to : ℕ
  to = staying before.labels (get_or before.labels e.a 0) (get_or before.labels e.b 0)

  -- what was joined is joined
  after : (m n : ℕ) → Joined before.journal m n → Joined book.journal m n
  after m n h = subst (λ (l : List Entry). Joined l m n) (sym entered.journal) (stays_joined before.journal e m n h)

  ends : Joined book.journal e.a e.b
  ends = subst (λ (l : List Entry). Joined l e.a e.b) (sym entered.journal) (subst (λ ps. joined ps e.a e.b ≡ true) (sym (map-append (λ (x : Entry). (x.a, x.b)) before.journal (e ∷ []))) (joined_last (links before.journal) e.a e.b))

  -- a name with the label that goes is in the class of the entry
  with_label : (n : ℕ) → n < length before.labels → get_or before.labels n 0 ≡ from → Joined book.journal e.a n
  with_label n inside is = elim (either before.labels (get_or before.labels e.a 0) (get_or before.labels e.b 0)) [
    | inl h ↦ joined_trans (links book.journal) e.a e.b n ends (after e.b n ((labelled.classes e.b n entered.b inside).0 (sym h.1 ∙ sym is)))
    | inr h ↦ after e.a n ((labelled.classes e.a n entered.a inside).0 (sym h.1 ∙ sym is))
  ]

  -- and so all others keep their labels
  kept : (n : ℕ) → n < length before.labels → ¬ (Joined book.journal e.a n) → get_or book.labels n 0 ≡ get_or before.labels n 0
  kept n inside apart =
      ap (λ (l : List ℕ). get_or l n 0) entered.labels ∙ get_or-map (moved from to) before.labels n 0 0 inside
      ∙ ap (λ t. cond t to (get_or before.labels n 0)) (ne_eqb (get_or before.labels n 0) from (λ is. apart (with_label n inside is)))

  -- where the labels before the entry were shown, those after it are
  pub shown_again : (shown : List ℕ) → ShowsClass before.labels book e.a shown → shown ≡ book.labels
  shown_again shown shows =
      let wide : length book.labels ≡ length before.labels = ap (λ (l : List ℕ). length l) entered.labels ∙ length-map before.labels (moved from to) in
      let alike = shows.wide in
      ext_get_or 0 shown book.labels (alike ∙ sym wide) (λ n inside. elim (cases_Bool (joined_by book.journal e.a n)) [
        | inl joined ↦ shows.members n (omega arith) joined
        | inr apart ↦ (let other : ¬ (Joined book.journal e.a n) = λ h. true≢false (sym h ∙ apart) in shows.others n other ∙ sym (kept n (omega arith) other))
      ])
