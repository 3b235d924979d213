-- What is shown after an entry was posted.
use Rattle.std.proofs.Common.{List, [], ◌∷◌, ◌++◌, ℕ, true, length, get_or, ◌≡◌, ◌<◌, inl, inr, sym, ap, subst, ◌∙◌, arith, true≢false}
use Rattle.std.proofs.lemmas.Bool.{cases_Bool}
use Rattle.std.proofs.lemmas.List.{ext_get_or, map-append}
use Rattle.chase_laws.specs.declared.entry.Entry.{Entry}
use Rattle.chase_laws.specs.Joined.{Joined, joined, joined_by, links}
use Rattle.chase_laws.specs.Core.{State, Enters}
use Rattle.chase_laws.proofs.CallerLemmas.{Within-append, joined_last, joined_sym, joined_trans}
use Rattle.class_book.specs.Classes.{Classes}
use Rattle.label_board.specs.Seen.{ShowsClass}

module _ (old new : State) (e : Entry) (enters : Enters old new e) where
  links_are : links new.journal ≡ links old.journal ++ (e.a, e.b) ∷ []
  links_are = ap links enters.journal ∙ map-append (λ (x : Entry). (x.a, x.b)) old.journal (e ∷ [])

  -- what was joined is joined
  after : (m n : ℕ) → Joined old.journal m n → Joined new.journal m n
  after m n h = subst (λ ps. joined ps m n ≡ true) (sym links_are) (Within-append (links old.journal) ((e.a, e.b) ∷ []) m n h)

  -- a name that the entry does not join to its ends keeps its label
  kept : (n : ℕ) → n < length old.labels → ¬ (Joined new.journal e.a n) → get_or new.labels n 0 ≡ get_or old.labels n 0
  kept n inside apart = elim enters.kept [
    | inl keeps ↦ keeps n inside (λ h. apart (joined_sym (links new.journal) n e.a (after n e.a h)))
    | inr keeps ↦ keeps n inside (λ h. apart (joined_trans (links new.journal) e.a e.b n
        (subst (λ ps. joined ps e.a e.b ≡ true) (sym links_are) (joined_last (links old.journal) e.a e.b))
        (joined_sym (links new.journal) n e.b (after n e.b h))))
  ]

  -- where the labels before the entry were shown, those after it are
  pub shown_after : (book : Classes) (before shown : List ℕ) → book.journal ≡ new.journal → book.labels ≡ new.labels → before ≡ old.labels
      → ShowsClass before book e.a shown → shown ≡ book.labels
  shown_after book before shown journal labels was shows =
      let wide : length book.labels ≡ length old.labels = ap length labels ∙ enters.count in
      let alike : length shown ≡ length old.labels = shows.wide ∙ ap length was in
      ext_get_or 0 shown book.labels (alike ∙ sym wide) (λ n inside. elim (cases_Bool (joined_by book.journal e.a n)) [
        | inl joins ↦ shows.members n (omega arith) joins
        | inr apart ↦ (let other : ¬ (Joined book.journal e.a n) = λ h. true≢false (sym h ∙ apart) in
            shows.others n other ∙ ap (λ (l : List ℕ). get_or l n 0) was
            ∙ sym (kept n (omega arith) (λ h. other (subst (λ (j : List Entry). Joined j e.a n) (sym journal) h)))
            ∙ ap (λ (l : List ℕ). get_or l n 0) (sym labels))
      ])
