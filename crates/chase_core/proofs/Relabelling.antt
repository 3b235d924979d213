-- Which names an entry brings into one class.
use Rattle.std.proofs.Common.{ℕ, slice_index, length, eq-eqb, ne_eqb, cond, ◌≡◌, ◌≢◌, ◌<◌, ◌⊎◌, inl, inr, sym, ◌∙◌, ap}
use Rattle.std.proofs.lemmas.Bool.{cases_eq}
use Rattle.std.proofs.lemmas.List.{get_or-map}
use Rattle.chase_laws.specs.Joined.{LabelsJoin}
use Rattle.chase_laws.specs.Core.{Keeps}
use Rattle.class_book.specs.Classes.{Classes, relabelled, staying, going}
use Rattle.class_book.proofs.CallerLemmas.{either, moved}

moved_there : (from to x : ℕ) → x ≡ from → moved from to x ≡ to
moved_there from to x e = ap (λ t. cond t to x) (eq-eqb x from e)

stays_there : (from to x : ℕ) → x ≢ from → moved from to x ≡ x
stays_there from to x n = ap (λ t. cond t to x) (ne_eqb x from n)

-- two labels that become one are the one that goes and the one that stays
made_one : (from to i j : ℕ) → i ≢ j → moved from to i ≡ moved from to j → ((i ≡ from) × (j ≡ to)) ⊎ ((i ≡ to) × (j ≡ from))
made_one from to i j apart same = elim (cases_eq i from) [
  | inl e ↦ elim (cases_eq j from) [
    | inl f ↦ absurd (apart (e ∙ sym f))
    | inr f ↦ inl (e, sym (stays_there from to j f) ∙ sym same ∙ moved_there from to i e)
  ]
  | inr e ↦ elim (cases_eq j from) [
    | inl f ↦ inr (sym (stays_there from to i e) ∙ same ∙ moved_there from to j f, f)
    | inr f ↦ absurd (apart (sym (stays_there from to i e) ∙ same ∙ stays_there from to j f))
  ]
]

-- the one that goes becomes the one that stays
goes_over : (from to i j : ℕ) → from ≢ to → i ≡ from → j ≡ to → moved from to i ≡ moved from to j
goes_over from to i j apart e f = moved_there from to i e ∙ sym f ∙ sym (stays_there from to j (λ h. apart (sym h ∙ f)))

module _ (old new : Classes) (a b : ℕ) (a_in : a < length old.labels) (b_in : b < length old.labels) (joins : LabelsJoin old.labels old.journal)
    (apart : slice_index old.labels a ≢ slice_index old.labels b)
    (labels : let x = slice_index old.labels a in let y = slice_index old.labels b in new.labels ≡ relabelled old.labels (going old.labels x y) (staying old.labels x y)) where
  x : ℕ
  x = slice_index old.labels a

  y : ℕ
  y = slice_index old.labels b

  -- the labels after one of the two goes
  after : (from to : ℕ) → new.labels ≡ relabelled old.labels from to → (n : ℕ) → n < length old.labels → slice_index new.labels n ≡ moved from to (slice_index old.labels n)
  after from to e n h = ap (λ ls. slice_index ls n) e ∙ get_or-map (moved from to) old.labels n 0 0 h

  chosen : (new.labels ≡ relabelled old.labels y x) ⊎ (new.labels ≡ relabelled old.labels x y)
  unfolding x y
  chosen = elim (either old.labels x y) [ inl h ↦ inl (rw (h.0, h.1) at labels) | inr h ↦ inr (rw (h.0, h.1) at labels) ]

  keeps_but : (g to : ℕ) → g < length old.labels → new.labels ≡ relabelled old.labels (slice_index old.labels g) to → Keeps old.labels new.labels old.journal g
  keeps_but g to g_in e n h out =
      after (slice_index old.labels g) to e n h ∙ stays_there (slice_index old.labels g) to (slice_index old.labels n) (λ same. out ((joins n g h g_in).0 same))

  -- all names outside one of the two classes keep their labels
  pub keeps : Keeps old.labels new.labels old.journal a ⊎ Keeps old.labels new.labels old.journal b
  unfolding x y
  keeps = elim chosen [ inl e ↦ inr (keeps_but b x b_in e) | inr e ↦ inl (keeps_but a y a_in e) ]

  -- names whose labels become one had the two labels
  pub brought_from : (m n : ℕ) → m < length old.labels → n < length old.labels → slice_index old.labels m ≢ slice_index old.labels n → slice_index new.labels m ≡ slice_index new.labels n →
      ((slice_index old.labels m ≡ slice_index old.labels a) × (slice_index old.labels n ≡ slice_index old.labels b))
      ⊎ ((slice_index old.labels m ≡ slice_index old.labels b) × (slice_index old.labels n ≡ slice_index old.labels a))
  unfolding x y
  brought_from m n m_in n_in differ same = elim chosen [
    | inl e ↦ elim (made_one y x (slice_index old.labels m) (slice_index old.labels n) differ (sym (after y x e m m_in) ∙ same ∙ after y x e n n_in)) [
      | inl h ↦ inr h
      | inr h ↦ inl h
    ]
    | inr e ↦ made_one x y (slice_index old.labels m) (slice_index old.labels n) differ (sym (after x y e m m_in) ∙ same ∙ after x y e n n_in)
  ]

  -- names that had the two labels have one
  pub brought_to : (m n : ℕ) → m < length old.labels → n < length old.labels → slice_index old.labels m ≡ slice_index old.labels a → slice_index old.labels n ≡ slice_index old.labels b →
      slice_index new.labels m ≡ slice_index new.labels n
  unfolding x y
  brought_to m n m_in n_in mx ny = elim chosen [
    | inl e ↦ sym (after y x e n n_in ∙ goes_over y x (slice_index old.labels n) (slice_index old.labels m) (λ h. apart (sym h)) ny mx ∙ sym (after y x e m m_in))
    | inr e ↦ after x y e m m_in ∙ goes_over x y (slice_index old.labels m) (slice_index old.labels n) apart mx ny ∙ sym (after x y e n n_in)
  ]
