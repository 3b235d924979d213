-- What a search along the numbers from a hash on has seen.
use Rattle.std.proofs.Common.{◌≡◌, ◌≢◌, ℕ, ◌+◌, ◌-◌, ◌^◌, ◌<◌, ◌≤◌, true, false, List, [], ◌∷◌, ◌++◌, length, inl, inr, slice_get, Some, None, refl, sym, ap, subst, ◌∙◌, true≢false, not, get_or, arith}
use Rattle.std.specs.Prelude.{nat_eq, position}
use Rattle.indexmap.specs.IndexSet.{insert_key}
use Rattle.std.specs.List.{IsDistinct, position_or_len, list_any}
use Rattle.std.proofs.lemmas.Bool.{cases_Bool, cases_lt, cases_order, cond-true, cond-false, lt-ltb, eqb-true, eq-eqb}
use Rattle.std.proofs.lemmas.List.{length-append}
use Rattle.std.proofs.lemmas.List.Folds.{list_any_at}
use Rattle.std.proofs.lemmas.List.Quantifiers.{position-Some}
use Rattle.std.proofs.lemmas.List.Sums.{fails_before_first}
use Rattle.std.proofs.lemmas.Map.Keys.{apart_from_distinct}
use Rattle.std.proofs.lemmas.Option.{slice_get-get_or, get_or_from_slice_get, slice_get_within}
use Rattle.gk_base.specs.declared.term.Term.{Term}
use Rattle.term_list.proofs.CallerLemmas.{slice_get-of_push}
use Rattle.term_table.specs.Marks.{IsReached, AreMarksOf, AreMarked, HasOneMore}
use Rattle.term_table.specs.Numbering.{is_named, AreDistinct}
use Rattle.term_table.proofs.NumberingLemmas.{slice_get-append_left, with_term-new, AreDistinct-with_term}

-- each number from a hash up to a mark is a mark, and none of them is that of the term
pub record HasSearched (marks : List ℕ) (terms : List Term) (term : Term) (hash mark : ℕ) : Type 0 where
  pub from_hash : hash ≤ mark
  pub between : (k : ℕ) → hash ≤ k → k < mark → (place : ℕ) × (slice_get marks place ≡ Some k)
  pub other : (place k : ℕ) → hash ≤ k → k < mark → slice_get marks place ≡ Some k → slice_get terms place ≢ Some term

-- before the first number
pub HasSearched-none : (marks : List ℕ) (terms : List Term) (term : Term) (hash : ℕ) → HasSearched marks terms term hash hash
HasSearched-none marks terms term hash = record {
  from_hash = omega arith;
  between = λ k from below. absurd (omega arith);
  other = λ place k from below at. absurd (omega arith);
}

module _ (marks : List ℕ) (mark : ℕ) where
  -- where a mark is found
  pub found_at : (i : ℕ) → position (nat_eq mark) marks ≡ Some i → slice_get marks i ≡ Some mark
  found_at i h =
      let p = position-Some (nat_eq mark) marks i 0 h in
      slice_get-get_or marks i 0 p.0 ∙ ap Some (sym (eqb-true mark (get_or marks i 0) p.1))

  -- what is not found is no mark
  pub none_at : position (nat_eq mark) marks ≡ None → (i : ℕ) → slice_get marks i ≢ Some mark
  none_at h i at =
      elim (cases_lt (position_or_len (nat_eq mark) marks) (length marks)) [
        | inl early ↦
            let found : None ≡ Some (position_or_len (nat_eq mark) marks) =
            sym h ∙ cond-true _ (Some (position_or_len (nat_eq mark) marks)) None (lt-ltb _ _ early) in
            absurd cc
        | inr late ↦
            let within = slice_get_within marks i mark at in
            let fails = fails_before_first (nat_eq mark) marks i 0 (omega arith) in
            true≢false (sym (eq-eqb mark (get_or marks i 0) (sym (get_or_from_slice_get marks i mark 0 at))) ∙ fails)
      ]

  -- what an insertion tells
  pub inserted_new : true ≡ not (list_any (nat_eq mark) marks) → ((i : ℕ) → slice_get marks i ≢ Some mark) × (insert_key nat_eq marks mark ≡ marks ++ mark ∷ [])
  inserted_new h =
      elim (cases_Bool (list_any (nat_eq mark) marks)) [
        | inl old ↦ absurd (true≢false (h ∙ ap not old))
        | inr new ↦ (
          λ i at. true≢false
              (sym (list_any_at (nat_eq mark) marks i 0 (slice_get_within marks i mark at) (eq-eqb mark (get_or marks i 0) (sym (get_or_from_slice_get marks i mark 0 at)))) ∙ new),
          cond-false _ marks (marks ++ mark ∷ []) new,
        )
      ]

  pub inserted_old : false ≡ not (list_any (nat_eq mark) marks) → insert_key nat_eq marks mark ≡ marks
  inserted_old h =
      elim (cases_Bool (list_any (nat_eq mark) marks)) [
        | inl old ↦ cond-true _ marks (marks ++ mark ∷ []) old
        | inr new ↦ absurd (true≢false (sym (h ∙ ap not new)))
      ]

  apart : (i j : ℕ) → IsDistinct nat_eq marks → slice_get marks i ≡ Some mark → slice_get marks j ≡ Some mark → i < j → ⊥
  apart i j distinct at_i at_j before =
      let within = slice_get_within marks j mark at_j in
      let differ = apart_from_distinct nat_eq marks i j 0 distinct before within in
      let same : get_or marks i 0 ≡ get_or marks j 0 = get_or_from_slice_get marks i mark 0 at_i ∙ sym (get_or_from_slice_get marks j mark 0 at_j) in
      true≢false (sym (eq-eqb (get_or marks i 0) (get_or marks j 0) same) ∙ differ)

  -- a mark stands at one place
  pub one_place : (i j : ℕ) → IsDistinct nat_eq marks → slice_get marks i ≡ Some mark → slice_get marks j ≡ Some mark → i ≡ j
  one_place i j distinct at_i at_j =
      elim (cases_order i j) [
        | inl same ↦ same
        | inr differs ↦ elim differs [ inl lower ↦ absurd (apart i j distinct at_i at_j lower) | inr higher ↦ absurd (apart j i distinct at_j at_i higher) ]
      ]

module _ (marks : List ℕ) (terms : List Term) (term : Term) (hash mark : ℕ) where
  -- one number more, whose term is another
  pub HasSearched-more : (place : ℕ) → IsDistinct nat_eq marks → slice_get marks place ≡ Some mark → slice_get terms place ≢ Some term
      → HasSearched marks terms term hash mark → HasSearched marks terms term hash (mark + 1)
  HasSearched-more place distinct there differs h = record {
    from_hash = let from = h.from_hash in omega arith;
    between = λ k from below.
        elim (cases_order k mark) [
          | inl same ↦ (place, there ∙ ap Some (sym same))
          | inr other ↦ elim other [ inl lower ↦ h.between k from lower | inr higher ↦ absurd (omega arith) ]
        ];
    other = λ i k from below at.
        elim (cases_order k mark) [
          | inl same ↦
              let is = one_place marks mark place i distinct there (at ∙ ap Some same) in
              subst (λ n. slice_get terms n ≢ Some term) is differs
          | inr other ↦ elim other [ inl lower ↦ h.other i k from lower at | inr higher ↦ absurd (omega arith) ]
        ];
  }

-- marks by any hash
module _ (hash_of : Term → ℕ) (marks : List ℕ) (terms : List Term) (term : Term) (mark : ℕ) where
  -- the term at a place has its mark behind those that were searched
  mark_of : AreMarksOf hash_of marks terms → (place : ℕ) → slice_get terms place ≡ Some term → (m : ℕ) × (slice_get marks place ≡ Some m) × IsReached hash_of marks term m
  mark_of are place h =
      let within = slice_get_within terms place term h in
      let one_each = are.one_each in
      let at = slice_get-get_or marks place 0 (omega arith) in
      (get_or marks place 0, at, are.reached place (get_or marks place 0) term at h)

  -- a term that was not met before a number that is no mark is not there
  pub absent_at : AreMarksOf hash_of marks terms → HasSearched marks terms term (hash_of term) mark
      → ((i : ℕ) → slice_get marks i ≢ Some mark) → (place : ℕ) → slice_get terms place ≢ Some term
  absent_at are h none place at =
      let m = mark_of are place at in
      let from = m.2.from_hash in
      elim (cases_order m.0 mark) [
        | inl same ↦ none place (m.1 ∙ ap Some same)
        | inr other ↦ elim other [
          | inl lower ↦ h.other place m.0 from lower m.1 at
          | inr higher ↦
              let from_hash = h.from_hash in
              let b = m.2.between mark from_hash higher in
              none b.0 b.1
        ]
      ]

  -- nor one that was not met among all numbers
  pub absent_past : AreMarksOf hash_of marks terms → HasSearched marks terms term (hash_of term) mark
      → 2 ^ 32 ≤ mark → (place : ℕ) → slice_get terms place ≢ Some term
  absent_past are h past place at =
      let m = mark_of are place at in
      let from = m.2.from_hash in
      let few = are.few place m.0 m.1 in
      h.other place m.0 from (omega arith) m.1 at

  -- the number that ended a search is the mark of the term, where that is put last
  pub HasOneMore-after : AreMarksOf hash_of marks terms → HasSearched marks terms term (hash_of term) mark
      → mark < 2 ^ 32 → IsDistinct nat_eq (marks ++ mark ∷ []) → HasOneMore hash_of marks terms term (marks ++ mark ∷ [])
  HasOneMore-after are h small distinct = record {
    mark = mark;
    last = refl;
    are = record {
      one_each = length-append marks (mark ∷ []) ∙ ap (λ n. n + 1) are.one_each ∙ sym (length-append terms (term ∷ []));
      distinct = distinct;
      few = λ place m at. elim (slice_get-of_push marks mark place m at) [ inl old ↦ are.few place m old | inr new ↦ subst (λ n. n < 2 ^ 32) new.1 small ];
      reached = λ place m t at at_t.
          elim (slice_get-of_push marks mark place m at) [
            | inl old ↦
                let within = slice_get_within marks place m old in
                let one_each = are.one_each in
                elim (slice_get-of_push terms term place t at_t) [
                  | inl old_t ↦ still m t (are.reached place m t old old_t)
                  | inr new_t ↦ absurd (let same = new_t.0 in omega arith)
                ]
            | inr new ↦
                elim (slice_get-of_push terms term place t at_t) [
                  | inl old_t ↦
                      let within = slice_get_within terms place t old_t in
                      let one_each = are.one_each in
                      absurd (let same = new.0 in omega arith)
                  | inr new_t ↦ subst (λ u. IsReached hash_of (marks ++ mark ∷ []) u m) new_t.1 (subst (IsReached hash_of (marks ++ mark ∷ []) term) new.1 own)
                ]
          ];
    };
  }
    where
      also : (k : ℕ) → (place : ℕ) × (slice_get marks place ≡ Some k) → (place : ℕ) × (slice_get (marks ++ mark ∷ []) place ≡ Some k)
      also k at = (at.0, slice_get-append_left marks (mark ∷ []) at.0 k at.1)

      still : (m : ℕ) (t : Term) → IsReached hash_of marks t m → IsReached hash_of (marks ++ mark ∷ []) t m
      still m t r = record {
        from_hash = r.from_hash;
        between = λ k from below. also k (r.between k from below);
      }

      own : IsReached hash_of (marks ++ mark ∷ []) term mark
      own = record {
        from_hash = h.from_hash;
        between = λ k from below. also k (h.between k from below);
      }

-- names stay names when a new one is added
pub AreMarked-added : (hash_of : Term → ℕ) (more : List ℕ) (terms after : List Term) (term : Term) → after ≡ terms ++ term ∷ [] → length terms < 2 ^ 32 - 1
    → is_named terms term ≡ false → AreDistinct terms → AreMarksOf hash_of more (terms ++ term ∷ []) → AreMarked hash_of more after
AreMarked-added hash_of more terms after term is few fresh distinct marks_of =
    subst (AreMarked hash_of more) (sym is)
    (record {
      few = omega (arith, few, length-append terms (term ∷ []));
      distinct = subst AreDistinct (with_term-new terms term fresh) (AreDistinct-with_term terms term distinct);
      marks_of = marks_of;
    })
