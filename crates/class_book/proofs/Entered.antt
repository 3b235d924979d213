-- What an entry does to the classes.
use Rattle.std.proofs.Common.{All, List, [], ◌∷◌, ◌++◌, ℕ, true, false, cond, length, slice_index, ◌≡◌, ◌<◌, ◌⊎◌, inl, inr, ◌==◌, ◌↔◌, if◌then◌else◌, sym, ◌∙◌, ap, subst, arith, eq-eqb, ne_eqb, true≢false, refl}
use Rattle.std.proofs.lemmas.Bool.{cases_Bool, eqb-true}
use Rattle.std.proofs.lemmas.List.Elements.{All-from_get_or, All-get_or, All-push}
use Rattle.chase_laws.specs.declared.entry.Entry.{Entry}
use Rattle.chase_laws.specs.Joined.{joined, links, Joined}
use Rattle.class_book.proofs.Joins.{Law, none_join, joins_more, joins_parts, joins_ends}
use Rattle.class_book.specs.Classes.{EndsAreNodes, IsLabelled, relabelled}
use Rattle.std.proofs.lemmas.List.{length-map, get_or-map}
use Rattle.class_book.proofs.Merging.{moved}

-- each node alone
pub alone : (n : ℕ) (labels : List ℕ) → length labels ≡ n → ((k : ℕ) → k < n → slice_index labels k ≡ k) → IsLabelled labels []
alone n labels count own = record {
  classes = λ i j h k.
      let p : slice_index labels i ≡ i = own i (omega arith) in
      let q : slice_index labels j ≡ j = own j (omega arith) in
      ((λ e. none_join i j ∙ eq-eqb i j (sym p ∙ e ∙ q)), (λ e. ap (slice_index labels) (eqb-true i j (sym (none_join i j) ∙ e))));
  in_range = All-from_get_or (λ l. l < length labels) labels 0 (λ i h. let p : slice_index labels i ≡ i = own i (omega arith) in omega arith);
  member = λ i h. let p : slice_index labels i ≡ i = own i (omega arith) in subst (λ m. joined [] i m ≡ true) (sym p) (none_join i i ∙ eq-eqb i i refl);
}

-- the labels after one was put in the place of another
abbrev pub IsRelabelled : List ℕ → List ℕ → ℕ → ℕ → Type 0
IsRelabelled old new from to = (length new ≡ length old) × ((k : ℕ) → k < length old → slice_index new k ≡ (if slice_index old k == from then to else slice_index old k))

-- what two nodes that are joined now join besides
abbrev pub JoinsBy : List Entry → List Entry → ℕ → ℕ → Type 0
JoinsBy H J a b = (m n : ℕ) → Joined J m n → Joined H m n ⊎ ((Joined H m a × Joined H b n) ⊎ (Joined H m b × Joined H a n))

is_relabelled : (labels : List ℕ) (from to : ℕ) → IsRelabelled labels (relabelled labels from to) from to
is_relabelled labels from to = (length-map labels (moved from to), λ k h. get_or-map (moved from to) labels k 0 0 h)

module _ (old new : List ℕ) (H J : List Entry) (kept gone : ℕ) (law : Law) (after : (m n : ℕ) → Joined H m n → Joined J m n) (last : Joined J kept gone) (parts : JoinsBy H J kept gone)
    (book : IsLabelled old H) (a_in : kept < length old) (b_in : gone < length old)
    (made : IsRelabelled old new (slice_index old gone) (slice_index old kept)) where
  -- a node of b's class, and another
  at_b : (k : ℕ) → k < length old → Joined H k gone → slice_index new k ≡ slice_index old kept
  at_b k h j = made.1 k h ∙ ap (λ t. cond t (slice_index old kept) (slice_index old k)) (eq-eqb (slice_index old k) (slice_index old gone) ((book.classes k gone h b_in).1 j))

  elsewhere : (k : ℕ) → k < length old → (Joined H k gone → ⊥) → slice_index new k ≡ slice_index old k
  elsewhere k h j = made.1 k h ∙ ap (λ t. cond t (slice_index old kept) (slice_index old k)) (ne_eqb (slice_index old k) (slice_index old gone) (λ i. j ((book.classes k gone h b_in).0 i)))

  -- a node of b's class is joined with a's now
  over : (m n : ℕ) → Joined H m gone → Joined H kept n → Joined J m n
  over m n h k =
      law.transitive (links J) m gone n (after m gone h)
      (law.transitive (links J) gone kept n (law.symmetric (links J) kept gone last) (after kept n k))

  one_moves : (m n : ℕ) → m < length old → n < length old → Joined H m gone → (Joined H n gone → ⊥) → (slice_index new m ≡ slice_index new n) ↔ Joined J m n
  one_moves m n i j here other = (
    (λ h. over m n here ((book.classes kept n a_in j).0 (sym (at_b m i here) ∙ h ∙ elsewhere n j other))),
    (λ h. at_b m i here ∙ (book.classes kept n a_in j).1 (elim (parts m n h) [
      | inl x ↦ absurd (other (law.transitive (links H) n m gone (law.symmetric (links H) m n x) here))
      | inr y ↦ elim y [
        | inl z ↦ absurd (other (law.symmetric (links H) gone n z.1))
        | inr z ↦ z.1
      ]
    ]) ∙ sym (elsewhere n j other)),
  )

  agree : (m n : ℕ) → m < length old → n < length old → (slice_index new m ≡ slice_index new n) ↔ Joined J m n
  agree m n i j = go (cases_Bool (joined (links H) m gone)) (cases_Bool (joined (links H) n gone))
    where
      go : (joined (links H) m gone ≡ true) ⊎ (joined (links H) m gone ≡ false) → (joined (links H) n gone ≡ true) ⊎ (joined (links H) n gone ≡ false) → (slice_index new m ≡ slice_index new n) ↔ Joined J m n
      go (inl x) (inl y) = ((λ h. after m n (law.transitive (links H) m gone n x (law.symmetric (links H) n gone y))), (λ h. at_b m i x ∙ sym (at_b n j y)))
      go (inl x) (inr y) = one_moves m n i j x (λ t. true≢false (sym t ∙ y))
      go (inr x) (inl y) =
          let k = one_moves n m j i y (λ t. true≢false (sym t ∙ x)) in
          ((λ h. law.symmetric (links J) n m (k.0 (sym h))), (λ h. sym (k.1 (law.symmetric (links J) m n h))))
      go (inr x) (inr y) =
          let p : slice_index new m ≡ slice_index old m = elsewhere m i (λ t. true≢false (sym t ∙ x)) in
          let q : slice_index new n ≡ slice_index old n = elsewhere n j (λ t. true≢false (sym t ∙ y)) in (
            (λ h. after m n ((book.classes m n i j).0 (sym p ∙ h ∙ q))),
            (λ h. p ∙ (book.classes m n i j).1 (elim (parts m n h) [
              | inl z ↦ z
              | inr z ↦ elim z [
                | inl u ↦ absurd (true≢false (sym (law.symmetric (links H) gone n u.1) ∙ y))
                | inr u ↦ absurd (true≢false (sym u.0 ∙ x))
              ]
            ]) ∙ sym q),
          )

  new_in_range : (k : ℕ) → k < length old → slice_index new k < length old
  new_in_range k h = elim (cases_Bool (joined (links H) k gone)) [
    | inl x ↦ subst (λ l. l < length old) (sym (at_b k h x)) (All-get_or (λ l. l < length old) old kept 0 a_in book.in_range)
    | inr x ↦ subst (λ l. l < length old) (sym (elsewhere k h (λ t. true≢false (sym t ∙ x)))) (All-get_or (λ l. l < length old) old k 0 h book.in_range)
  ]

  new_member : (k : ℕ) → k < length old → Joined J k (slice_index new k)
  new_member k h = elim (cases_Bool (joined (links H) k gone)) [
    | inl x ↦ subst (Joined J k) (sym (at_b k h x)) (over k (slice_index old kept) x (book.member kept a_in))
    | inr x ↦ subst (Joined J k) (sym (elsewhere k h (λ t. true≢false (sym t ∙ x)))) (after k (slice_index old k) (book.member k h))
  ]

  pub entered : IsLabelled new J
  entered = record {
    classes = λ m n i j. agree m n (rw (← made.0) i) (rw (← made.0) j);
    in_range = All-from_get_or (λ l. l < length new) new 0 (λ k h. rw made.0 (new_in_range k (rw (← made.0) h)));
    member = λ k h. new_member k (rw (← made.0) h);
  }

-- what an entry joins, the other way round
joins_back : Law → (H : List Entry) (e : Entry) → JoinsBy H (H ++ e ∷ []) e.b e.a
joins_back law H e m n h = elim (joins_parts law H e m n h) [
  | inl x ↦ inl x
  | inr y ↦ elim y [ inl z ↦ inr (inr z) | inr z ↦ inr (inl z) ]
]

-- the labels after an entry whose one end's class is relabelled
pub entered_by : Law → (labels : List ℕ) (H : List Entry) (e : Entry) (stay go : ℕ) → IsLabelled labels H → e.a < length labels → e.b < length labels →
    ((stay ≡ slice_index labels e.a) × (go ≡ slice_index labels e.b)) ⊎ ((stay ≡ slice_index labels e.b) × (go ≡ slice_index labels e.a)) →
    IsLabelled (relabelled labels go stay) (H ++ e ∷ [])
entered_by law labels H e stay go book a_in b_in (inl h) =
    entered labels (relabelled labels go stay) H (H ++ e ∷ []) e.a e.b law (joins_more law H e) (joins_ends law H e) (joins_parts law H e) book a_in b_in
    (subst (λ x. IsRelabelled labels (relabelled labels go stay) x (slice_index labels e.a)) h.1 (subst (IsRelabelled labels (relabelled labels go stay) go) h.0 (is_relabelled labels go stay)))
entered_by law labels H e stay go book a_in b_in (inr h) =
    entered labels (relabelled labels go stay) H (H ++ e ∷ []) e.b e.a law (joins_more law H e) (law.symmetric (links (H ++ e ∷ [])) e.a e.b (joins_ends law H e)) (joins_back law H e) book b_in a_in
    (subst (λ x. IsRelabelled labels (relabelled labels go stay) x (slice_index labels e.b)) h.1 (subst (IsRelabelled labels (relabelled labels go stay) go) h.0 (is_relabelled labels go stay)))

-- an identification of two nodes more, under as many labels
pub ends_more : (old new : List ℕ) (H : List Entry) (e : Entry) → length new ≡ length old → EndsAreNodes old H → e.a < length old → e.b < length old → EndsAreNodes new (H ++ e ∷ [])
ends_more old new H e count ends a_in b_in =
    subst (λ (n : ℕ). All (λ (x : Entry). (x.a < n) × (x.b < n)) (H ++ e ∷ [])) (sym count)
    (All-push (λ (x : Entry). (x.a < length old) × (x.b < length old)) H e ends (a_in, b_in))
